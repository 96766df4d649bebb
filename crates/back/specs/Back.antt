-- Document 01, "Journal" and "Refusal numbers", and document 02, requests a, b and f: what a step back leaves, and its contract.
use Rattle.std.specs.Prelude.{◌≡◌, ℕ, cond, eqb, None}
use Rattle.kinds.specs.Kinds.{held_in}
use Rattle.calls.specs.declared.Kept.{Kept}
use Rattle.calls.specs.Calls.{Areas, Outcome, lengths_of, unanswered, stepped_back}
use Rattle.refusals.specs.Refusals.{back_refusal_of}

-- "The step back tests 2, 3, 4, then 9", 10 after 3 (02, a) and 11 after 4 (02, b); it has no frame, so no sum is tested (02, f)
unfoldable pub back_of : Areas → Outcome
back_of a =
    cond (eqb (back_refusal_of a) 0) (unanswered None 0 (stepped_back (held_in (lengths_of a)) a)) (unanswered None (back_refusal_of a) a)

-- the answer to a step back: its number, and what is kept
pub record Back : Type 0 where
  pub number : ℕ
  pub kept : Kept

abbrev pub backed : ℕ → Kept → Back
backed number kept = record { number = number; kept = kept }

-- what a step back gives and leaves
pub record StepsBack (a : Areas) (r : Back) (areas' : Areas) : Type 0 where
  pub number_is : r.number ≡ (back_of a).number
  pub kept_is : r.kept ≡ (back_of a).areas.kept
  pub areas_are : areas' ≡ (back_of a).areas
