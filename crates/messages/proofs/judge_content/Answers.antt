use Prim.Native.Nat.{◌*◌, ◌≤◌}
use mathlib.Core.Path.{◌≡◌, refl, sym, ap, ◌∙◌}
use mathlib.Core.Bool.{false}
use native.Mathlib.Omega.{arith}
use native.Mathlib.Nat.{mul-le-mul}
use lib.ListN.{length}
use Rattle.digits.proofs.Bools.{was_false, was_not}
use Rattle.digits.proofs.Laid.{part_rest}
use Rattle.kinds.specs.declared.Kind.{Kind}
use Rattle.kinds.specs.Kinds.{kind_of}
use Rattle.kinds.proofs.Known.{sized}
use Rattle.points.proofs.Parts.{all_drop}
use Rattle.table.specs.Table.{fields_of, count_in, rest_in, follows_right}
use Rattle.messages.specs.Asked.{not_digits, count_zero, not_held, wrong_pattern, wrong_type}
use Rattle.messages.proofs.Judged.{points_written, filled, one_digit, same_long, same_none, same_beyond, same_unfit, same_unlisted, same_fills, same_order, at_102, too_short_lem, at_103, at_104, at_105, at_106, at_107, at_108, at_order}
use Rattle.messages.proofs.judge_content.Goals as goal
use Rattle.messages.proofs.judge_content.Goals.{After-read_numbers-n, After-is_long, After-is_none, After-is_beyond, After-is_unfit, After-is_unlisted}

-- where the numbers are read: the digits are admitted, and the fields are there
digits : (c : After-read_numbers-n) → not_digits c.args.release c.args.m c.args.content.now ≡ false
digits c = was_false refl (sym c.is_written.ensures ∙ c.if-not-is_written.false)

room : (c : After-read_numbers-n) → fields_of c.args.m ≤ length c.args.content.now
room c = c.if-content-fields.false

-- each test's answer, as a row of the table has it
long : (c : After-is_long) → c.is_long.result
    ≡ follows_right c.args.m.follows (kind_of c.args.held c.args.m.tag).unit (count_in c.args.m c.args.content.now) (rest_in c.args.m c.args.content.now)
long c =
    same_long c.args.m.follows c.is_long.ensures (ap (λ (x : Kind). x.unit) c.kind-k.ensures) c.read_numbers-n.ensures.program_value.2
    (part_rest c.args.content.now (fields_of c.args.m))

none : (c : After-is_none) → c.is_none.result ≡ count_zero c.args.m c.args.content.now
none c = same_none c.args.m c.is_none.ensures c.read_numbers-n.ensures.program_value.2

beyond : (c : After-is_beyond) → c.is_beyond.result ≡ not_held c.args.held c.args.m c.args.content.now
beyond c = let n = c.read_numbers-n.ensures.program_value in same_beyond c.args.m c.is_beyond.ensures c.kind-k.ensures n.1 n.2

unfit : (c : After-is_unfit) → c.is_unfit.result ≡ wrong_pattern c.args.fitted c.args.m c.args.content.now
unfit c =
    same_unfit c.args.m.follows c.args.fitted c.is_unfit.ensures c.read_numbers-n.ensures.program_value.2 (part_rest c.args.content.now (fields_of c.args.m))

unlisted : (c : After-is_unlisted) → c.is_unlisted.result ≡ wrong_type c.args.m c.args.content.now
unlisted c = same_unlisted c.args.m.follows c.is_unlisted.ensures (part_rest c.args.content.now (fields_of c.args.m))

pub returns-then-not-is_written : goal.returns-then-not-is_written
returns-then-not-is_written c = at_102 _ _ _ _ _ (was_not (sym c.is_written.ensures ∙ c.if-not-is_written.true))

pub returns-then-content-fields : goal.returns-then-content-fields
returns-then-content-fields c =
    too_short_lem _ _ _ _ _ (was_false refl (sym c.is_written.ensures ∙ c.if-not-is_written.false)) c.if-content-fields.true

pub is_long-requires : goal.is_long-requires
is_long-requires c =
    let s = c.args.content.now in
    let k = sized c.args.held c.args.m.tag c.requires.1 in
    let n = c.read_numbers-n in
    let e = ap (λ (x : Kind). x.unit) c.kind-k.ensures in
    let p : n.result.count * c.kind-k.result.unit ≤ 65536 * 40 = let x : n.result.count ≤ 65536 = omega (arith, n.ensures.start_bound.1) in let y : c.kind-k.result.unit ≤ 40 = omega (arith, e, k.few_bytes) in mul-le-mul x y in
    (omega (arith, p), λ w. rw (part_rest s (fields_of c.args.m)) (all_drop (fields_of c.args.m) s (points_written c.args.release c.args.m s w (digits (goal.at.is_long-requires c).After-read_numbers-n))))

pub returns-then-not-is_long : goal.returns-then-not-is_long
returns-then-not-is_long c =
    let p = goal.at.returns-then-not-is_long c in
    let n = p.After-read_numbers-n in
    at_103 _ _ _ _ _ (digits n) (room n) (sym (long p.After-is_long) ∙ c.if-not-is_long.true)

pub returns-then-n-ne0 : goal.returns-then-n-ne0
returns-then-n-ne0 c =
    let p = goal.at.returns-then-n-ne0 c in
    let n = p.After-read_numbers-n in
    at_104 _ _ _ _ _ (digits n) (room n) (sym (long p.After-is_long) ∙ c.if-not-is_long.false)
    (λ q. c.if-n-ne0.true (c.read_numbers-n.ensures.program_value.0 ∙ q))

pub returns-then-is_none : goal.returns-then-is_none
returns-then-is_none c =
    let p = goal.at.returns-then-is_none c in
    let n = p.After-read_numbers-n in
    at_105 _ _ _ _ _ (digits n) (room n) (sym (long p.After-is_long) ∙ c.if-not-is_long.false)
    (sym c.read_numbers-n.ensures.program_value.0 ∙ c.if-n-ne0.false)
    (sym (none p.After-is_none) ∙ c.if-is_none.true)

pub is_beyond-requires : goal.is_beyond-requires
is_beyond-requires c =
    let n = c.read_numbers-n.ensures.start_bound in
    (n.0, n.1, rw c.kind-k.ensures (sized c.args.held c.args.m.tag c.requires.1).numbers)

pub returns-then-is_beyond : goal.returns-then-is_beyond
returns-then-is_beyond c =
    let p = goal.at.returns-then-is_beyond c in
    let n = p.After-read_numbers-n in
    at_106 _ _ _ _ _ (digits n) (room n) (sym (long p.After-is_long) ∙ c.if-not-is_long.false)
    (sym c.read_numbers-n.ensures.program_value.0 ∙ c.if-n-ne0.false)
    (sym (none p.After-is_none) ∙ c.if-is_none.false)
    (sym (beyond p.After-is_beyond) ∙ c.if-is_beyond.true)

pub is_unfit-requires : goal.is_unfit-requires
is_unfit-requires c q =
    let p = goal.at.is_unfit-requires c in
    let m = c.args.m in
    let n = c.read_numbers-n.ensures.program_value.2 in
    let t = part_rest c.args.content.now (fields_of m) in (
      rw t (all_drop (fields_of m) c.args.content.now (points_written c.args.release m c.args.content.now q (digits p.After-read_numbers-n))),
      same_fills (filled _ _ _ m.follows q (sym (long p.After-is_long) ∙ c.if-not-is_long.false)) n t,
    )

pub returns-then-is_unfit : goal.returns-then-is_unfit
returns-then-is_unfit c =
    let p = goal.at.returns-then-is_unfit c in
    let n = p.After-read_numbers-n in
    at_107 _ _ _ _ _ (digits n) (room n) (sym (long p.After-is_long) ∙ c.if-not-is_long.false)
    (sym c.read_numbers-n.ensures.program_value.0 ∙ c.if-n-ne0.false)
    (sym (none p.After-is_none) ∙ c.if-is_none.false)
    (sym (beyond p.After-is_beyond) ∙ c.if-is_beyond.false)
    (sym (unfit p.After-is_unfit) ∙ c.if-is_unfit.true)

pub is_unlisted-requires : goal.is_unlisted-requires
is_unlisted-requires c q =
    ap length (part_rest c.args.content.now (fields_of c.args.m))
    ∙ one_digit _ _ _ c.args.m.follows q (sym (long (goal.at.is_unlisted-requires c).After-is_long) ∙ c.if-not-is_long.false)

pub returns-then-is_unlisted : goal.returns-then-is_unlisted
returns-then-is_unlisted c =
    let p = goal.at.returns-then-is_unlisted c in
    let n = p.After-read_numbers-n in
    at_108 _ _ _ _ _ (digits n) (room n) (sym (long p.After-is_long) ∙ c.if-not-is_long.false)
    (sym c.read_numbers-n.ensures.program_value.0 ∙ c.if-n-ne0.false)
    (sym (none p.After-is_none) ∙ c.if-is_none.false)
    (sym (beyond p.After-is_beyond) ∙ c.if-is_beyond.false)
    (sym (unfit p.After-is_unfit) ∙ c.if-is_unfit.false)
    (sym (unlisted p.After-is_unlisted) ∙ c.if-is_unlisted.true)

pub returns : goal.returns
returns c =
    let p = goal.at.returns c in
    let n = p.After-read_numbers-n in
    let v = c.read_numbers-n.ensures.program_value in
    same_order c.args.m
    (at_order _ _ _ _ _ (digits n) (room n) (sym (long p.After-is_long) ∙ c.if-not-is_long.false)
    (sym v.0 ∙ c.if-n-ne0.false)
    (sym (none p.After-is_none) ∙ c.if-is_none.false)
    (sym (beyond p.After-is_beyond) ∙ c.if-is_beyond.false)
    (sym (unfit p.After-is_unfit) ∙ c.if-is_unfit.false)
    (sym (unlisted p.After-is_unlisted) ∙ c.if-is_unlisted.false))
    v.1
    v.2
