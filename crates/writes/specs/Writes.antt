-- Document 01, "Each message" and "Journal", and document 02, request a: 244H, 246H, 24EH, 24BH and 24CH write a run of one kind, and each adds one
-- entry with what stood there.
use Rattle.std.specs.Prelude.{ℕ, ◌+◌, ◌*◌, ◌≤◌, ◌≡◌, true, List, length, take}
use Rattle.kinds.specs.declared.Kind.{Kind}
use Rattle.kinds.specs.declared.Held.{Held}
use Rattle.kinds.specs.Kinds.{Sound, kind_of, holds, run_of, put, size_of}
use Rattle.journal.specs.Journal.{Entry, whole, entries_in, added, entry_for}
use Rattle.journal.specs.Laws.{Holds}

-- "the old bytes of what was named": the entry of so many from a start number on
abbrev pub entry_of : Kind → ℕ → ℕ → List ℕ → Entry
entry_of k start count area = entry_for k.tag start (run_of k start count area)

-- the journal with that entry added
abbrev pub Entered : Held → Kind → ℕ → ℕ → List ℕ → List ℕ → List ℕ → ℕ → ℕ → Type 0
Entered held k start count area journal journal' used used' =
    Holds (length journal) (added (length journal) (entries_in held 0 (take used journal)) (entry_of k start count area)) journal' used'

-- what a write of new bytes leaves: the bytes put, and the entry added to the journal
pub record Written (held : Held) (k : Kind) (start count : ℕ) (new area area' journal journal' : List ℕ) (used used' : ℕ) : Type 0 where
  pub put_there : area' ≡ put k start new area
  pub journalled : Entered held k start count area journal journal' used used'

-- a board that can be written: areas of the right lengths, whole entries in the journal, and every number held
pub record Ready (held : Held) (k : Kind) (start count : ℕ) (area journal : List ℕ) (used : ℕ) : Type 0 where
  pub sound : Sound held
  pub own : kind_of held k.tag ≡ k
  pub some : 1 ≤ count
  pub held_all : holds k start count ≡ true
  pub named : count ≤ k.most
  pub area_long : length area ≡ size_of k
  pub room : 5 + count * k.unit ≤ length journal
  pub largest : length journal ≤ 65536
  pub used_within : used ≤ length journal
  pub entries_whole : whole held 0 (take used journal) ≡ true
