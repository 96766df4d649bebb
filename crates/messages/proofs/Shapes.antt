-- What the table's rows have in common, and what each action's rows have.
use Prim.Native.Nat.{ℕ, ◌≤◌}
use mathlib.Core.Path.{◌≡◌, refl, subst}
use mathlib.Core.Bool.{Bool, true, false, cond, ◌&&◌}
use mathlib.Core.Logic.{◌⊎◌, inl, inr}
use mathlib.Core.List.{List, [], ◌∷◌}
use native.Mathlib.Omega.{arith}
use lib.Dec.{eqb, leb}
use borrow.Author.Tests.{leb-true}
use Rattle.digits.proofs.Inverse.{and_left, and_right}
use Rattle.digits.specs.Digits.{admitted, number_of}
use Rattle.frames.specs.Frame.{message_in}
use Rattle.kinds.specs.Kinds.{points_tag, columns_tag, integers_tag, flags_tag}
use Rattle.table.specs.declared.Follows.TheVariants.{TenBytes, AxisPattern, Points, RunBytes, ChangeType}
use Rattle.table.specs.declared.Action.{Action}
use Rattle.table.specs.declared.Action.TheVariants.{SayBack, CountPoints, ListPoints, ReadRun, AxisStatus, WritePoints, ClearRun, ChangeRun, ShowFlags, SetFlag}
use Rattle.table.specs.declared.Message.{Message}
use Rattle.std.specs.Prelude.{Some, None}
use Rattle.table.specs.Table.{messages, named_in, message_numbered, message_of, fields_of, Narrow}

-- what holds of each row holds of the one that is found
abbrev pub Each : (Message → Type 0) → List Message → Type 0
Each P [] = Unit
Each P (m ∷ ms) = P m × Each P ms

module _ (P : Message → Type 0) where
  pub found : (id : ℕ) (ms : List Message) {m : Message} → Each P ms → named_in id ms ≡ Some m → P m
  found id [] h e = absurd (let z : ◌≡◌ {A = ℕ} 0 1 = cc in omega arith)
  found id (k ∷ ms) {m} h e = go (eqb id k.id) (λ f. found id ms h.1 f) e
    where
      go : (b : Bool) → (named_in id ms ≡ Some m → P m) → cond b (Some k) (named_in id ms) ≡ Some m → P m
      go true g f = let q : k ≡ m = cc in subst P q h.0
      go false g f = g f

  pub in_frame : (release : ℕ) (frame : List ℕ) {m : Message} → Each P messages → message_of release frame ≡ Some m → P m
  unfolding message_of message_numbered
  in_frame release frame {m} h e = go (admitted release (message_in frame)) e
    where
      go : (b : Bool) → cond b (named_in (number_of (message_in frame)) messages) None ≡ Some m → P m
      go true f = found (number_of (message_in frame)) messages h f
      go false f = absurd (let z : ◌≡◌ {A = ℕ} 0 1 = cc in omega arith)

-- a message that names a run of a kind by start and count
abbrev Names : ℕ → Message → Type 0
Names tag m = (m.tag ≡ tag) × (1 ≤ m.start) × (1 ≤ m.count)

-- one that names a run of columns or of integers, by a count of two digits
abbrev Runs : Message → Type 0
Runs m = ((m.tag ≡ columns_tag) ⊎ (m.tag ≡ integers_tag)) × (1 ≤ m.start) × (m.count ≡ 2)

abbrev pub Shape : Action → Message → Type 0
Shape SayBack m = (fields_of m ≡ 0) × (m.follows ≡ TenBytes)
Shape CountPoints m = m.tag ≡ points_tag
Shape ListPoints m = Names points_tag m
Shape ReadRun m = Runs m
Shape AxisStatus m = (fields_of m ≡ 0) × (m.follows ≡ AxisPattern)
Shape WritePoints m = Names points_tag m × (m.follows ≡ Points)
Shape ClearRun m = Names points_tag m
Shape ChangeRun m = Runs m × (m.follows ≡ RunBytes)
Shape ShowFlags m = Names flags_tag m
Shape SetFlag m = (m.tag ≡ flags_tag) × (1 ≤ m.start) × (m.count ≡ 0) × (m.follows ≡ ChangeType)

pub record Shaped (m : Message) : Type 0 where
  pub narrow : Narrow m
  pub shape : Shape m.does m

-- fields of at most four digits, by computing
shaped_row : (m : Message) → leb m.program 4 && (leb m.start 4 && leb m.count 4) ≡ true → Shape m.does m → Shaped m
shaped_row m w s =
    let v = and_right (leb m.program 4) (leb m.start 4 && leb m.count 4) w in
    record {
      narrow = record {
        program = leb-true _ _ (and_left (leb m.program 4) (leb m.start 4 && leb m.count 4) w);
        start = leb-true _ _ (and_left (leb m.start 4) (leb m.count 4) v);
        count = leb-true _ _ (and_right (leb m.start 4) (leb m.count 4) v);
      };
      shape = s;
    }

pub each_shaped : Each Shaped messages
each_shaped = (shaped_row _ refl (refl, refl), (shaped_row _ refl refl, (shaped_row _ refl (refl, omega arith, omega arith), (shaped_row _ refl (refl, omega arith, omega arith), (shaped_row _ refl (inr refl, omega arith, refl), (shaped_row _ refl (inl refl, omega arith, refl), (shaped_row _ refl (refl, refl), (shaped_row _ refl ((refl, omega arith, omega arith), refl), (shaped_row _ refl (refl, omega arith, omega arith), (shaped_row _ refl (refl, omega arith, refl, refl), (shaped_row _ refl ((inr refl, omega arith, refl), refl), (shaped_row _ refl ((inl refl, omega arith, refl), refl), tt))))))))))))

pub shaped : (release : ℕ) (frame : List ℕ) (m : Message) → message_of release frame ≡ Some m → Shaped m
shaped release frame m e = in_frame Shaped release frame each_shaped e
