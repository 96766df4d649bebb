-- A content in capitals is judged as it is in small letters.
use Prim.Native.Nat.{ℕ, zero, suc, ◌+◌}
use mathlib.Core.Path.{◌≡◌, refl, sym, ap, ap₂, ◌∙◌}
use mathlib.Core.Bool.{Bool, false, cond, not, ◌&&◌}
use mathlib.Core.List.{List}
use lib.Dec.{eqb, leb}
use lib.ListN.{drop}
use Rattle.digits.specs.Digits.{capitals, number_of}
use Rattle.digits.proofs.Inverse.{rules}
use Rattle.digits.proofs.Capitals.{length_capitals, drop_capitals, number_front, number_part}
use Rattle.frames.proofs.Bools.{and_false}
use Rattle.kinds.specs.declared.Held.{Held}
use Rattle.kinds.specs.Kinds.{kind_of, holds}
use Rattle.points.specs.Point.{length_of}
use Rattle.points.proofs.Capitals.{behind, same_fills}
use Rattle.table.specs.declared.Follows.{Follows}
use Rattle.table.specs.declared.Follows.TheVariants.{Nothing, TenBytes, AxisPattern, Points, RunBytes, ChangeType}
use Rattle.table.specs.declared.Message.{Message}
use Rattle.std.specs.Prelude.{Option, Some, None}
use Rattle.table.specs.Table.{fields_of, start_in, count_in, rest_in, follows_right, any_bytes, have_points, have_type, pattern_fits, patterns_fit}
use Rattle.messages.specs.Asked.{Refused, Order, not_digits, wrong_length, wrong_program, count_zero, not_held, wrong_pattern, wrong_type, asked_rows, judged}
use Rattle.messages.proofs.Judged.{pick, picked, judged_known, Right, written}

same_follows : (f : Follows) (unit count : ℕ) (s : List ℕ) → follows_right f unit count (capitals s) ≡ follows_right f unit count s
same_follows Nothing unit count s = rw (length_capitals s)
same_follows TenBytes unit count s = rw (length_capitals s)
same_follows AxisPattern unit count s = rw (length_capitals s)
same_follows Points unit count s = same_fills count s
same_follows RunBytes unit count s = rw (length_capitals s)
same_follows ChangeType unit count s = rw (length_capitals s)

same_patterns : (fitted count : ℕ) (s : List ℕ) → patterns_fit fitted count (capitals s) ≡ patterns_fit fitted count s
unfolding patterns_fit
same_patterns fitted zero s = refl
same_patterns fitted (suc count) s =
    ap₂ (λ (a b : Bool). a && b) (ap (pattern_fits fitted) (number_front 2 s))
    (ap (patterns_fit fitted count) (behind s) ∙ same_patterns fitted count (drop (length_of s) s))

-- the numbers of a content, and each test of them
module _ (m : Message) (s : List ℕ) where
  pub same_start : start_in m (capitals s) ≡ start_in m s
  same_start = number_part m.start m.program s

  pub same_count : count_in m (capitals s) ≡ count_in m s
  same_count = ap (λ (n : ℕ). cond (eqb m.count 0) 1 n) (number_part m.count (m.program + m.start) s)

  pub same_rest : rest_in m (capitals s) ≡ capitals (rest_in m s)
  same_rest = drop_capitals (fields_of m) s

  same_program : wrong_program m (capitals s) ≡ wrong_program m s
  same_program = ap (λ (n : ℕ). not (eqb n 0)) (number_front m.program s)

  same_some : count_zero m (capitals s) ≡ count_zero m s
  same_some = ap (λ (n : ℕ). leb 1 m.count && eqb n 0) same_count

  same_type : wrong_type m (capitals s) ≡ wrong_type m s
  same_type = ap (λ (n : ℕ). have_type m.follows && not (leb n 1)) (ap number_of same_rest ∙ (rules (rest_in m s)).same_number)

  same_pattern : (fitted : ℕ) → wrong_pattern fitted m (capitals s) ≡ wrong_pattern fitted m s
  same_pattern fitted =
      ap (λ (b : Bool). have_points m.follows && not b)
      (ap₂ (patterns_fit fitted) same_count same_rest ∙ same_patterns fitted (count_in m s) (rest_in m s))

  module _ (held : Held) where
    same_held : not_held held m (capitals s) ≡ not_held held m s
    same_held = ap₂ (λ (n k : ℕ). leb 1 m.start && not (holds (kind_of held m.tag) n k)) same_start same_count

    same_long : wrong_length held m (capitals s) ≡ wrong_length held m s
    same_long =
        ap₂ (λ (a b : Bool). not (a && b)) (ap (leb (fields_of m)) (length_capitals s))
        (ap₂ (follows_right m.follows (kind_of held m.tag).unit) same_count same_rest
        ∙ same_follows m.follows (kind_of held m.tag).unit (count_in m s) (rest_in m s))

    -- what is right under one release is right in capitals under every release
    pub in_capitals : (fitted release other : ℕ) → any_bytes m.follows ≡ false → Right held fitted release m s → Right held fitted other m (capitals s)
    in_capitals fitted release other any r =
        record {
          digits = rw ((rules s).either other, written release m s any r.digits) (and_false (not (any_bytes m.follows)));
          long = same_long ∙ r.long;
          program = same_program ∙ r.program;
          some = same_some ∙ r.some;
          held_all = same_held ∙ r.held_all;
          pattern = same_pattern fitted ∙ r.pattern;
          type = same_type ∙ r.type;
        }

    same_picked : (fitted : ℕ) → picked held fitted 2 m (capitals s) ≡ picked held fitted 2 m s
    same_picked fitted =
        let d : not_digits 2 m (capitals s) ≡ not_digits 2 m s = ap (λ (b : Bool). not (any_bytes m.follows) && not b) ((rules s).either 2) in
        λ i. pick (d i) (same_long i) (same_program i) (same_some i) (same_held i) (same_pattern fitted i) (same_type i)

    known_same : (fitted : ℕ) → judged held fitted 2 (Some m) (capitals s) ≡ judged held fitted 2 (Some m) s
    known_same fitted =
        let p = same_picked fitted in
        judged_known held fitted 2 m (capitals s) ∙ (λ i. cond (eqb (p i) 0) (Order m (same_start i) (same_count i)) (Refused (p i)))
        ∙ sym (judged_known held fitted 2 m s)

-- under release 2 a content is judged as its capitals are
pub same_judged : (held : Held) (fitted : ℕ) (n : Option Message) (s : List ℕ) → judged held fitted 2 n (capitals s) ≡ judged held fitted 2 n s
unfolding judged asked_rows
same_judged held fitted None s = refl
same_judged held fitted (Some m) s = known_same m s held fitted
