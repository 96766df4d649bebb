-- What is promised of the areas by their tags. The proofs are in proofs/Tagged.antt.
use Rattle.std.specs.Prelude.{ℕ, ◌≤◌, ◌≡◌, true, List}
use Rattle.kinds.specs.declared.Held.{Held}
use Rattle.kinds.specs.Kinds.{kind_of, holds, put}
use Rattle.journal.specs.Journal.{Entry, entry_for}
use Rattle.calls.specs.Calls.{Areas, area_in, put_in}

-- bytes of a held run stand in the area of their own kind ("Journal"; 02, a)
abbrev pub PutOwn : Type 0
PutOwn =
    (h : Held) (start count : ℕ) (bytes : List ℕ) (a : Areas) (tag : ℕ) → 1 ≤ count → holds (kind_of h tag) start count ≡ true
    → area_in tag (put_in h (entry_for tag start bytes) a) ≡ put (kind_of h tag) start bytes (area_in tag a)

-- and the area of another kind is as it was
abbrev pub PutOther : Type 0
PutOther = (h : Held) (e : Entry) (a : Areas) (tag : ℕ) → (tag ≡ e.tag → ⊥) → area_in tag (put_in h e a) ≡ area_in tag a
