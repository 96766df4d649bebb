-- What is promised of the journal. The proofs are in proofs/Promised.antt.
use Rattle.std.specs.Prelude.{ℕ, ◌+◌, ◌-◌, ◌*◌, ◌<◌, ◌≤◌, ◌≡◌, true, List, [], ◌∷◌, ◌++◌, length, take, drop, get_or}
use Rattle.kinds.specs.declared.Kind.{Kind}
use Rattle.kinds.specs.declared.Held.{Held}
use Rattle.journal.specs.declared.Last.{Last}
use Rattle.kinds.specs.Kinds.{kind_of, place_of, run_of, put}
use Rattle.journal.specs.Journal.{Entry, encode, encodes, entry_fits, whole, entries_in, kept, added, area_of, last_entry, others, puts, entry_for}

-- what an add, and a step back, leave of the journal: every byte, and the used length that is handed on
pub record Holds (size : ℕ) (es : List Entry) (j' : List ℕ) (used' : ℕ) : Type 0 where
  pub bytes : j' ≡ area_of size es
  pub used : used' ≡ length (encodes es)

-- an entry that the journal can hold: well-formed, its numbers in two bytes each
pub record Good (held : Held) (e : Entry) : Type 0 where
  pub length_fits : 2 + length e.bytes < 65536
  pub start_fits : e.start < 65536
  pub well_formed : entry_fits (kind_of held e.tag) e.start (length e.bytes) ≡ true

unfoldable pub AllGood : Held → List Entry → Type 0
AllGood held [] = Unit
AllGood held (e ∷ es) = Good held e × AllGood held es

-- the last entry, where it stands in the used part: its numbers, its bytes, and the length of the others before it
pub record Stands (held : Held) (journal : List ℕ) (used : ℕ) (l : Last) : Type 0 where
  pub entry :
      entry_for l.tag l.start (take (used - (l.at + 5)) (drop (l.at + 5) journal)) ≡ last_entry (entries_in held 0 (take used journal))
  pub behind : l.at ≡ length (encodes (others (entries_in held 0 (take used journal))))
  pub span : l.at + 5 ≤ used
  pub good : Good held (last_entry (entries_in held 0 (take used journal)))

-- what is encoded is read back
abbrev pub ReadBack : Held → List Entry → Type 0
ReadBack held es = AllGood held es → (whole held 0 (encodes es) ≡ true) × (entries_in held 0 (encodes es) ≡ es)

-- well-formed bytes are an encoding
abbrev pub Encoding : Held → List ℕ → Type 0
Encoding held bytes =
    ((i : ℕ) → get_or bytes i 0 < 256) → whole held 0 bytes ≡ true → AllGood held (entries_in held 0 bytes) × (encodes (entries_in held 0 bytes) ≡ bytes)

-- dropping keeps the newest, as many as fit, "no more than needed"
pub record Newest (room : ℕ) (es : List Entry) : Type 0 where
  pub dropped : List Entry
  pub newest : es ≡ dropped ++ kept room es
  pub fits : length (encodes (kept room es)) ≤ room
  pub needed : (es' es'' : List Entry) → es ≡ es' ++ es'' → length (encodes es'') ≤ room → length (encodes es'') ≤ length (encodes (kept room es))

-- stepping back after a write of any kind restores the area byte for byte and leaves the other entries as they were
pub record Undone (size : ℕ) (k : Kind) (start count : ℕ) (new area : List ℕ) (es : List Entry) : Type 0 where
  pub area_back : puts k (last_entry (added size es (entry_for k.tag start (run_of k start count area)))) (put k start new area) ≡ area
  pub others_kept :
      others (added size es (entry_for k.tag start (run_of k start count area)))
      ≡ kept (size - length (encode (entry_for k.tag start (run_of k start count area)))) es

-- "Journal": so it is for new bytes that are so many things of the kind, and fit into the area from there on
abbrev pub EveryUndone : Type 0
EveryUndone =
    (size : ℕ) (k : Kind) (start count : ℕ) (new area : List ℕ) (es : List Entry) → length new ≡ count * k.unit
    → place_of k start + length new ≤ length area → Undone size k start count new area es
