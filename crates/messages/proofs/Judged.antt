-- The rows of a message as one choice over truth values, and what an order tells.
use Prim.Native.Nat.{ℕ, ◌≤◌, ◌<◌}
use mathlib.Core.Path.{◌≡◌, refl, sym, ap, ◌∙◌, subst}
use mathlib.Core.Bool.{Bool, true, false, cond, not, ◌&&◌}
use mathlib.Core.List.{List}
use native.Mathlib.Omega.{arith}
use lib.Dec.{eqb, leb}
use lib.ListN.{length}
use borrow.Author.Tests.{eqb-true, eqb-false, eq-eqb, ne_eqb, le-leb, lt-leb, not-false}
use Rattle.digits.specs.Digits.{admitted, all_digits, number_of}
use Rattle.digits.proofs.Inverse.{rules}
use Rattle.frames.specs.Frame.{content_in}
use Rattle.kinds.specs.declared.Held.{Held}
use Rattle.kinds.specs.declared.Kind.{Kind}
use Rattle.kinds.specs.Kinds.{kind_of, holds}
use Rattle.points.specs.Point.{fills_of}
use Rattle.table.specs.declared.Follows.{Follows}
use Rattle.table.specs.declared.Follows.TheVariants.{Nothing, TenBytes, AxisPattern, Points, RunBytes, ChangeType}
use Rattle.table.specs.declared.Message.{Message}
use Rattle.std.specs.Prelude.{Option, Some, None}
use Rattle.messages.specs.Asked.{Asked, Refused, Order, not_digits, wrong_length, wrong_program, count_zero, not_held, wrong_pattern, wrong_type, asked_rows, judged, asked_of, number_given}
use Rattle.messages.specs.Rows.{first_of}
use Rattle.table.specs.Table.{message_of, fields_of, program_in, start_in, count_in, rest_in, follows_right, any_bytes, have_points, have_type, patterns_fit}

abbrev pub pick : Bool → Bool → Bool → Bool → Bool → Bool → Bool → ℕ
pick p q r s t u v = cond p 102 (cond q 103 (cond r 104 (cond s 105 (cond t 106 (cond u 107 (cond v 108 0))))))

module _ (held : Held) (fitted release : ℕ) (m : Message) (content : List ℕ) where
  abbrev pub picked : ℕ
  picked =
      pick (not_digits release m content) (wrong_length held m content) (wrong_program m content) (count_zero m content) (not_held held m content)
      (wrong_pattern fitted m content)
      (wrong_type m content)

  pub picked_rows : first_of (asked_rows held fitted release (Some m) content) ≡ picked
  unfolding asked_rows
  picked_rows = refl

  pub judged_known : judged held fitted release (Some m) content ≡ cond (eqb picked 0) (Order m (start_in m content) (count_in m content)) (Refused picked)
  unfolding judged asked_rows
  judged_known = refl

  -- none of 102 to 108 is given to a content
  pub record Right : Type 0 where
    pub digits : not_digits release m content ≡ false
    pub long : wrong_length held m content ≡ false
    pub program : wrong_program m content ≡ false
    pub some : count_zero m content ≡ false
    pub held_all : not_held held m content ≡ false
    pub pattern : wrong_pattern fitted m content ≡ false
    pub type : wrong_type m content ≡ false

none_picked : (p q r s t u v : Bool) → pick p q r s t u v ≡ 0
    → (p ≡ false) × (q ≡ false) × (r ≡ false) × (s ≡ false) × (t ≡ false) × (u ≡ false) × (v ≡ false)
none_picked true q r s t u v e = absurd (omega arith)
none_picked false true r s t u v e = absurd (omega arith)
none_picked false false true s t u v e = absurd (omega arith)
none_picked false false false true t u v e = absurd (omega arith)
none_picked false false false false true u v e = absurd (omega arith)
none_picked false false false false false true v e = absurd (omega arith)
none_picked false false false false false false true e = absurd (omega arith)
none_picked false false false false false false false e = (refl, refl, refl, refl, refl, refl, refl)

module _ (held : Held) (fitted release : ℕ) (m : Message) (content : List ℕ) where
  pub right : picked held fitted release m content ≡ 0 → Right held fitted release m content
  right e =
      let h =
      none_picked (not_digits release m content) (wrong_length held m content) (wrong_program m content) (count_zero m content) (not_held held m content)
      (wrong_pattern fitted m content)
      (wrong_type m content)
      e in
      record { digits = h.0; long = h.1; program = h.2; some = h.3; held_all = h.4; pattern = h.5; type = h.6 }

  -- such a content is the message's order
  pub ordered : Right held fitted release m content → judged held fitted release (Some m) content ≡ Order m (start_in m content) (count_in m content)
  ordered r = judged_known held fitted release m content ∙ rw (r.digits, r.long, r.program, r.some, r.held_all, r.pattern, r.type)

  -- the number that is given is the rows'
  pub known_number : number_given (judged held fitted release (Some m) content) ≡ first_of (asked_rows held fitted release (Some m) content)
  unfolding asked_rows
  known_number = ap number_given (judged_known held fitted release m content) ∙ go (picked held fitted release m content)
    where
      go : (k : ℕ) → number_given (cond (eqb k 0) (Order m (start_in m content) (count_in m content)) (Refused k)) ≡ k
      go k = pass (eqb k 0) refl
        where
          pass : (b : Bool) → eqb k 0 ≡ b → number_given (cond b (Order m (start_in m content) (count_in m content)) (Refused k)) ≡ k
          pass true e = sym (eqb-true k 0 e)
          pass false e = refl

pub number_judged : (held : Held) (fitted release : ℕ) (n : Option Message) (content : List ℕ) → number_given (judged held fitted release n content) ≡ first_of (asked_rows held fitted release n content)
unfolding judged
number_judged held fitted release None content = refl
number_judged held fitted release (Some m) content = known_number held fitted release m content

unknown_some : (held : Held) (fitted release : ℕ) (content : List ℕ) → judged held fitted release None content ≡ Refused 0 → ⊥
unfolding judged asked_rows
unknown_some held fitted release content e = let z : ◌≡◌ {A = ℕ} 101 0 = cc in omega arith

-- no refusal has number 0
pub refused_some : (held : Held) (fitted release : ℕ) (frame : List ℕ) → asked_of held fitted release frame ≡ Refused 0 → ⊥
unfolding asked_of
refused_some held fitted release frame = go (message_of release frame)
  where
    known : (m : Message) (k : ℕ) (b : Bool) → eqb k 0 ≡ b
        → cond b (Order m (start_in m (content_in frame)) (count_in m (content_in frame))) (Refused k) ≡ Refused 0 → ⊥
    known m k true e f = let z : ◌≡◌ {A = ℕ} 0 1 = cc in omega arith
    known m k false e f = let z : k ≡ 0 = cc in eqb-false k 0 e z

    go : (n : Option Message) → judged held fitted release n (content_in frame) ≡ Refused 0 → ⊥
    go None e = unknown_some held fitted release (content_in frame) e
    go (Some m) e = known m (picked held fitted release m (content_in frame)) (eqb (picked held fitted release m (content_in frame)) 0) refl (sym (judged_known held fitted release m (content_in frame)) ∙ e)

picked_from : (p q r s t u v : Bool) → (pick p q r s t u v ≡ 0 → ⊥) → 101 ≤ pick p q r s t u v
picked_from true q r s t u v n = omega arith
picked_from false true r s t u v n = omega arith
picked_from false false true s t u v n = omega arith
picked_from false false false true t u v n = omega arith
picked_from false false false false true u v n = omega arith
picked_from false false false false false true v n = omega arith
picked_from false false false false false false true n = omega arith
picked_from false false false false false false false n = absurd (n refl)

-- and each is from 101 on: it has an error reply
pub asked_from : (held : Held) (fitted release : ℕ) (n : Option Message) (content : List ℕ) → (first_of (asked_rows held fitted release n content) ≡ 0 → ⊥)
    → 101 ≤ first_of (asked_rows held fitted release n content)
unfolding asked_rows
asked_from held fitted release None content z = omega arith
asked_from held fitted release (Some m) content z =
    picked_from (not_digits release m content) (wrong_length held m content) (wrong_program m content) (count_zero m content) (not_held held m content)
    (wrong_pattern fitted m content)
    (wrong_type m content)
    z

pub refused_from : (held : Held) (fitted release : ℕ) (frame : List ℕ) (k : ℕ) → asked_of held fitted release frame ≡ Refused k → 101 ≤ k
unfolding asked_of
refused_from held fitted release frame k e =
    let g = sym (number_judged held fitted release (message_of release frame) (content_in frame)) ∙ ap number_given e in
    subst (λ (n : ℕ). 101 ≤ n) g
    (asked_from held fitted release (message_of release frame) (content_in frame) (λ z. refused_some held fitted release frame (e ∙ ap Refused (sym g ∙ z))))

-- what an order tells of the message and the content
pub record Told (held : Held) (fitted release : ℕ) (n : Option Message) (content : List ℕ) (m : Message) (start count : ℕ) : Type 0 where
  pub message : n ≡ Some m
  pub start_is : start ≡ start_in m content
  pub count_is : count ≡ count_in m content
  pub rows : Right held fitted release m content

pub told : (held : Held) (fitted release : ℕ) (n : Option Message) (content : List ℕ) (m : Message) (start count : ℕ) → judged held fitted release n content ≡ Order m start count
    → Told held fitted release n content m start count
unfolding judged
told held fitted release None content m start count e = absurd (let z : ◌≡◌ {A = ℕ} 0 1 = cc in omega arith)
told held fitted release (Some k) content m start count e = go (eqb (picked held fitted release k content) 0) refl (sym (judged_known held fitted release k content) ∙ e)
  where
    go : (b : Bool) → eqb (picked held fitted release k content) 0 ≡ b
        → cond b (Order k (start_in k content) (count_in k content)) (Refused (picked held fitted release k content)) ≡ Order m start count → Told held fitted release (Some k) content m start count
    go true z f =
        let q : k ≡ m = cc in
        let s : start_in k content ≡ start = cc in
        let c : count_in k content ≡ count = cc in
        record {
          message = ap Some q;
          start_is = sym s ∙ ap (λ (x : Message). start_in x content) q;
          count_is = sym c ∙ ap (λ (x : Message). count_in x content) q;
          rows = subst (λ (x : Message). Right held fitted release x content) q (right held fitted release k content (eqb-true _ _ z));
        }
    go false z f = absurd (let w : ◌≡◌ {A = ℕ} 0 1 = cc in omega arith)

-- a content that passed 102 is digits, unless it is any bytes; where points follow it is digits
points_digits : (x : Follows) → have_points x ≡ true → any_bytes x ≡ false
points_digits Nothing e = refl
points_digits TenBytes e = sym e
points_digits AxisPattern e = refl
points_digits Points e = refl
points_digits RunBytes e = refl
points_digits ChangeType e = refl

pub as_admitted : (release : ℕ) (m : Message) (content : List ℕ) → any_bytes m.follows ≡ false → not_digits release m content ≡ false
    → admitted release content ≡ true
as_admitted release m content a d = not-false _ (rw a at d)

pub written : (release : ℕ) (m : Message) (content : List ℕ) → any_bytes m.follows ≡ false → not_digits release m content ≡ false → all_digits content ≡ true
written release m content a d = (rules content).digits release (as_admitted release m content a d)

pub points_written : (release : ℕ) (m : Message) (content : List ℕ) → have_points m.follows ≡ true → not_digits release m content ≡ false
    → all_digits content ≡ true
points_written release m content p d = written release m content (points_digits m.follows p) d

-- what a test said, of the numbers as the content writes them
pub same_long : {b : Bool} {u u' k k' : ℕ} {t t' : List ℕ} (x : Follows) → b ≡ follows_right x u k t → u ≡ u' → k ≡ k' → t ≡ t' → b ≡ follows_right x u' k' t'
same_long x e u k t = cc

pub same_none : {b : Bool} {k k' : ℕ} (m : Message) → b ≡ leb 1 m.count && eqb k 0 → k ≡ k' → b ≡ leb 1 m.count && eqb k' 0
same_none m e k = cc

pub same_beyond : {b : Bool} {k k' : Kind} {s s' c c' : ℕ} (m : Message) → b ≡ leb 1 m.start && not (holds k s c) → k ≡ k' → s ≡ s' → c ≡ c'
    → b ≡ leb 1 m.start && not (holds k' s' c')
same_beyond m e k s c = cc

pub same_unfit : {b : Bool} {k k' : ℕ} {t t' : List ℕ} (x : Follows) (fitted : ℕ) → b ≡ have_points x && not (patterns_fit fitted k t) → k ≡ k' → t ≡ t'
    → b ≡ have_points x && not (patterns_fit fitted k' t')
same_unfit x fitted e k t = cc

pub same_unlisted : {b : Bool} {t t' : List ℕ} (x : Follows) → b ≡ have_type x && not (leb (number_of t) 1) → t ≡ t' → b ≡ have_type x && not (leb (number_of t') 1)
same_unlisted x e t = cc

pub same_fills : {k k' : ℕ} {t t' : List ℕ} → fills_of k' t' ≡ true → k ≡ k' → t ≡ t' → fills_of k t ≡ true
same_fills e k t = cc

pub same_judged : {a : Asked} {n n' : Option Message} {t t' : List ℕ} (held : Held) (fitted release : ℕ) → a ≡ judged held fitted release n t → n ≡ n' → t ≡ t' → a ≡ judged held fitted release n' t'
same_judged held fitted release e n t = cc

pub same_order : {s s' c c' : ℕ} (m : Message) {a : Asked} → Order m s' c' ≡ a → s ≡ s' → c ≡ c' → Order m s c ≡ a
same_order m e s c = cc

not_so : {A : Type 0} → false ≡ true → A
not_so e = absurd (let z : ◌≡◌ {A = ℕ} 1 0 = ap (λ (b : Bool). cond b 1 0) (sym e) in omega arith)

-- points that follow were read whole
pub filled : (u k : ℕ) (t : List ℕ) (x : Follows) → have_points x ≡ true → follows_right x u k t ≡ true → fills_of k t ≡ true
filled u k t Nothing p f = not_so p
filled u k t TenBytes p f = not_so p
filled u k t AxisPattern p f = not_so p
filled u k t Points p f = f
filled u k t RunBytes p f = not_so p
filled u k t ChangeType p f = not_so p

-- a change type that follows is one digit
pub one_digit : (u k : ℕ) (t : List ℕ) (x : Follows) → have_type x ≡ true → follows_right x u k t ≡ true → length t ≡ 1
one_digit u k t Nothing p f = not_so p
one_digit u k t TenBytes p f = not_so p
one_digit u k t AxisPattern p f = not_so p
one_digit u k t Points p f = not_so p
one_digit u k t RunBytes p f = not_so p
one_digit u k t ChangeType p f = eqb-true _ _ f

-- each return of the judgement, test after test
module _ (held : Held) (fitted release : ℕ) (m : Message) (content : List ℕ) where
  pub at_102 : not_digits release m content ≡ true → Refused 102 ≡ judged held fitted release (Some m) content
  at_102 d = sym (judged_known held fitted release m content ∙ rw d)

  module _ (d : not_digits release m content ≡ false) where
    pub too_short_lem : length content < fields_of m → Refused 103 ≡ judged held fitted release (Some m) content
    too_short_lem l = sym (judged_known held fitted release m content ∙ rw (d, lt-leb _ _ l))

    module _ (l : fields_of m ≤ length content) where
      pub at_103 : follows_right m.follows (kind_of held m.tag).unit (count_in m content) (rest_in m content) ≡ false
          → Refused 103 ≡ judged held fitted release (Some m) content
      at_103 f = sym (judged_known held fitted release m content ∙ rw (d, le-leb _ _ l, f))

      module _ (f : follows_right m.follows (kind_of held m.tag).unit (count_in m content) (rest_in m content) ≡ true) where
        pub at_104 : (program_in m content ≡ 0 → ⊥) → Refused 104 ≡ judged held fitted release (Some m) content
        at_104 p = sym (judged_known held fitted release m content ∙ rw (d, le-leb _ _ l, f, ne_eqb _ _ p))

        module _ (p : program_in m content ≡ 0) where
          pub at_105 : count_zero m content ≡ true → Refused 105 ≡ judged held fitted release (Some m) content
          at_105 z = sym (judged_known held fitted release m content ∙ rw (d, le-leb _ _ l, f, eq-eqb _ _ p, z))

          module _ (z : count_zero m content ≡ false) where
            pub at_106 : not_held held m content ≡ true → Refused 106 ≡ judged held fitted release (Some m) content
            at_106 h = sym (judged_known held fitted release m content ∙ rw (d, le-leb _ _ l, f, eq-eqb _ _ p, z, h))

            module _ (h : not_held held m content ≡ false) where
              pub at_107 : wrong_pattern fitted m content ≡ true → Refused 107 ≡ judged held fitted release (Some m) content
              at_107 w = sym (judged_known held fitted release m content ∙ rw (d, le-leb _ _ l, f, eq-eqb _ _ p, z, h, w))

              module _ (w : wrong_pattern fitted m content ≡ false) where
                pub at_108 : wrong_type m content ≡ true → Refused 108 ≡ judged held fitted release (Some m) content
                at_108 t = sym (judged_known held fitted release m content ∙ rw (d, le-leb _ _ l, f, eq-eqb _ _ p, z, h, w, t))

                pub at_order : wrong_type m content ≡ false → Order m (start_in m content) (count_in m content) ≡ judged held fitted release (Some m) content
                at_order t = sym (judged_known held fitted release m content ∙ rw (d, le-leb _ _ l, f, eq-eqb _ _ p, z, h, w, t))
