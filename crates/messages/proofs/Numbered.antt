-- A refusal's number is never 0, and tells which refusal it is.
use Prim.Native.Nat.{ℕ}
use mathlib.Core.Path.{◌≡◌, refl, sym, ap, ◌∙◌}
use mathlib.Core.Bool.{cond}
use native.Mathlib.Omega.{arith}
use lib.Dec.{eqb}
use Rattle.messages.specs.declared.refusal.Refusal.{Refusal}
use Rattle.messages.specs.declared.refusal.Refusal.TheVariants.{ReplyArea, PointsArea, ColumnsArea, JournalArea, AxisRecords, Shape, WrongSum, OtherStation, NothingToStepBack, VariableAreas, KeptCount, SumSwitchedOff, Release, UnknownMessage, NotDigits, ContentLength, ProgramNumber, CountZero, NotHeld, AxisPattern, ChangeType}
use Rattle.std.specs.Prelude.{Result, Ok, Err, ⊤}
use Rattle.messages.specs.declared.Request.{Request}
use Rattle.messages.specs.Asked.{asked_by}
use Rattle.messages.specs.Refusal.{refusal_number, number_by}

-- the refusal of a number
refusal_of : ℕ → Refusal
refusal_of n =
    cond (eqb n 1) ReplyArea
    (cond (eqb n 2) PointsArea
    (cond (eqb n 3) ColumnsArea
    (cond (eqb n 4) JournalArea
    (cond (eqb n 5) AxisRecords
    (cond (eqb n 6) Shape
    (cond (eqb n 7) WrongSum
    (cond (eqb n 8) OtherStation
    (cond (eqb n 9) NothingToStepBack
    (cond (eqb n 10) VariableAreas
    (cond (eqb n 11) KeptCount
    (cond (eqb n 12) SumSwitchedOff
    (cond (eqb n 13) Release
    (cond (eqb n 101) UnknownMessage
    (cond (eqb n 102) NotDigits
    (cond (eqb n 103) ContentLength
    (cond (eqb n 104) ProgramNumber
    (cond (eqb n 105) CountZero
    (cond (eqb n 106) NotHeld
    (cond (eqb n 107) AxisPattern
    ChangeType)))))))))))))))))))

known : (r : Refusal) → refusal_of (refusal_number r) ≡ r
unfolding refusal_of
known ReplyArea = refl
known PointsArea = refl
known ColumnsArea = refl
known JournalArea = refl
known AxisRecords = refl
known Shape = refl
known WrongSum = refl
known OtherStation = refl
known NothingToStepBack = refl
known VariableAreas = refl
known KeptCount = refl
known SumSwitchedOff = refl
known Release = refl
known UnknownMessage = refl
known NotDigits = refl
known ContentLength = refl
known ProgramNumber = refl
known CountZero = refl
known NotHeld = refl
known AxisPattern = refl
known ChangeType = refl

pub same_refusal : {r s : Refusal} → refusal_number r ≡ refusal_number s → r ≡ s
same_refusal {r} {s} e = sym (known r) ∙ ap refusal_of e ∙ known s

pub refusal_some : (r : Refusal) → refusal_number r ≡ 0 → ⊥
refusal_some ReplyArea e = omega (arith, e)
refusal_some PointsArea e = omega (arith, e)
refusal_some ColumnsArea e = omega (arith, e)
refusal_some JournalArea e = omega (arith, e)
refusal_some AxisRecords e = omega (arith, e)
refusal_some Shape e = omega (arith, e)
refusal_some WrongSum e = omega (arith, e)
refusal_some OtherStation e = omega (arith, e)
refusal_some NothingToStepBack e = omega (arith, e)
refusal_some VariableAreas e = omega (arith, e)
refusal_some KeptCount e = omega (arith, e)
refusal_some SumSwitchedOff e = omega (arith, e)
refusal_some Release e = omega (arith, e)
refusal_some UnknownMessage e = omega (arith, e)
refusal_some NotDigits e = omega (arith, e)
refusal_some ContentLength e = omega (arith, e)
refusal_some ProgramNumber e = omega (arith, e)
refusal_some CountZero e = omega (arith, e)
refusal_some NotHeld e = omega (arith, e)
refusal_some AxisPattern e = omega (arith, e)
refusal_some ChangeType e = omega (arith, e)

-- the number of an answer, by what it is
pub err_number : {A : Type 0} {x : Result A Refusal} {r : Refusal} → x ≡ Err r → number_by x ≡ refusal_number r
err_number e = ap number_by e

pub ok_number : {A : Type 0} {x : Result A Refusal} {v : A} → x ≡ Ok v → number_by x ≡ 0
ok_number e = ap number_by e

-- and the number of an answer that says nothing else tells which it is
pub same_number : (x y : Result ⊤ Refusal) → number_by x ≡ number_by y → x ≡ y
same_number (Ok a) (Ok b) e = refl
same_number (Err r) (Err s) e = ap Err (same_refusal e)
same_number (Ok a) (Err s) e = absurd (refusal_some s (sym e))
same_number (Err r) (Ok b) e = absurd (refusal_some r e)

-- what an answer says that a frame asks tells which answer it is
pub same_asked_by : (x y : Result Request Refusal) → asked_by x ≡ asked_by y → x ≡ y
same_asked_by (Ok r) (Ok s) e =
    let m : r.message ≡ s.message = cc in
    let n : r.start ≡ s.start = cc in
    let k : r.count ≡ s.count = cc in
    λ i. Ok (record { message = m i; start = n i; count = k i })
same_asked_by (Err r) (Err s) e =
    let n : refusal_number r ≡ refusal_number s = cc in
    ap Err (same_refusal n)
same_asked_by (Ok r) (Err s) e = absurd (let z : ◌≡◌ {A = ℕ} 0 1 = cc in omega arith)
same_asked_by (Err r) (Ok s) e = absurd (let z : ◌≡◌ {A = ℕ} 0 1 = cc in omega arith)
