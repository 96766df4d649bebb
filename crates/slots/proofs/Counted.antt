-- How many slots are effective: of cleared ones, in parts, and after others were put over some of them.
use Prim.Native.Nat.{ℕ, zero, suc, ◌+◌, ◌-◌, ◌*◌, ◌≤◌}
use mathlib.Core.Path.{◌≡◌, refl, sym, ap, ◌∙◌}
use mathlib.Core.Bool.{Bool, true, false, cond}
use mathlib.Core.List.{List, [], ◌∷◌, ◌++◌}
use native.Mathlib.Nat.{zero-add, suc-add}
use native.Mathlib.Omega.{arith}
use lib.Dec.{eqb}
use lib.ListN.{length, take, drop, get_or, replicate, length-drop, length-replicate, take-append-drop, replicate-append-replicate, get_or-append}
use lib.Seq.{length-take-le, drop-append-le, drop-drop}
use borrow.Author.Tests.{eqb-true}
use Rattle.digits.specs.Laid.{laid}
use Rattle.kinds.specs.declared.Held.{Held}
use Rattle.kinds.specs.Kinds.{points_tag, points_of, kind_of, holds, run_of, put}
use Rattle.kinds.proofs.Known.{tag_of, kind_points, within, room}
use Rattle.kinds.proofs.Promised.{run}
use Rattle.points.specs.Point.{effective_in}
use Rattle.slots.specs.Counted.{effective_among}

-- cleared slots, one by one
pub zero_slots : (count : ℕ) → replicate {A = ℕ} (suc count * 40) 0 ≡ replicate 40 0 ++ replicate (count * 40) 0
zero_slots count =
    let e : suc count * 40 ≡ 40 + count * 40 = omega arith in
    ap (λ (x : ℕ). replicate {A = ℕ} x 0) e ∙ sym (replicate-append-replicate 40 (count * 40) 0)

-- none of them is effective
pub effective_zero : (count : ℕ) → effective_in count (replicate (count * 40) 0) ≡ 0
unfolding effective_in
effective_zero zero = refl
effective_zero (suc count) = rw (zero_slots count) (let h = effective_zero count in omega arith)

-- slots counted in two parts
effective_parts : (a b : ℕ) (s t : List ℕ) → length s ≡ a * 40 → effective_in (a + b) (s ++ t) ≡ effective_in a s + effective_in b t
unfolding effective_in
effective_parts zero b [] t l = rw (zero-add b) (sym (zero-add (effective_in b t)))
effective_parts zero b (x ∷ s) t l = absurd (omega arith)
effective_parts (suc a) b s t l =
    let h = effective_parts a b (drop 40 s) t (simp length-drop (omega arith)) in
    rw (suc-add a b, get_or-append s t 0 0 (omega arith), drop-append-le 40 s t (omega arith)) (omega arith)

-- an area in three parts: before a run, the run, and behind it
effective_three : (n at count : ℕ) (s t u : List ℕ) → at + count ≤ n → length s ≡ at * 40 → length t ≡ count * 40
    → effective_in n (s ++ (t ++ u)) ≡ effective_in at s + (effective_in count t + effective_in (n - (at + count)) u)
effective_three n at count s t u h l k =
    let e : n ≡ at + (count + (n - (at + count))) = omega arith in
    ap (λ (x : ℕ). effective_in x (s ++ (t ++ u))) e
    ∙ effective_parts at (count + (n - (at + count))) s (t ++ u) l
    ∙ ap (λ (x : ℕ). effective_in at s + x) (effective_parts count (n - (at + count)) t u k)

-- slots put over others: each effective one counts once
pub effective_put : (h : Held) (start count : ℕ) (bytes area : List ℕ) → holds (points_of h) start count ≡ true → length area ≡ h.points * 40 → length bytes ≡ count * 40
    → effective_in h.points (put (points_of h) start bytes area) + effective_in count (run_of (points_of h) start count area) ≡ effective_in h.points area + effective_in count bytes
unfolding put run_of laid
effective_put h start count bytes area e l k =
    let w = within (points_of h) start count e in
    let at : ℕ = start - 1 in
    let s : List ℕ = take (at * 40) area in
    let t : List ℕ = take (count * 40) (drop (at * 40) area) in
    let u : List ℕ = drop (at * 40 + count * 40) area in
    let ls : length s ≡ at * 40 = length-take-le (at * 40) area (omega arith) in
    let lt : length t ≡ count * 40 = length-take-le (count * 40) (drop (at * 40) area) (simp length-drop (omega arith)) in
    let old : area ≡ s ++ (t ++ u) =
    sym (take-append-drop (at * 40) area)
    ∙ ap (λ (x : List ℕ). s ++ x) (sym (take-append-drop (count * 40) (drop (at * 40) area)) ∙ ap (λ (x : List ℕ). t ++ x) (drop-drop (count * 40) (at * 40) area)) in
    let new : s ++ (bytes ++ drop (at * 40 + length bytes) area) ≡ s ++ (bytes ++ u) = ap (λ (x : ℕ). s ++ (bytes ++ drop (at * 40 + x) area)) k in
    let a = ap (effective_in h.points) new ∙ effective_three h.points at count s bytes u (omega arith) ls k in
    let b = ap (effective_in h.points) old ∙ effective_three h.points at count s t u (omega arith) ls lt in
    omega arith

-- so the effective slots of a run are among all, and after others were put over them the count is that without the old ones and with the new
pub run_recounted : (h : Held) (start count : ℕ) (bytes area : List ℕ) → holds (points_of h) start count ≡ true → length area ≡ h.points * 40 → length bytes ≡ count * 40
    → effective_in h.points (put (points_of h) start bytes area) + effective_among (points_of h) start count area
    ≡ effective_in h.points area + effective_among (points_of h) start count (put (points_of h) start bytes area)
run_recounted h start count bytes area e l k =
    let back = (run (points_of h) start count bytes area k (omega (arith, room (points_of h) start count e))).read_back in
    effective_put h start count bytes area e l k ∙ ap (λ (x : List ℕ). effective_in h.points area + effective_in count x) (sym back)

pub run_among : (h : Held) (start count : ℕ) (area : List ℕ) → holds (points_of h) start count ≡ true → length area ≡ h.points * 40
    → effective_among (points_of h) start count area ≤ effective_in h.points area
run_among h start count area e l = omega (arith, effective_put h start count (replicate (count * 40) 0) area e l (length-replicate (count * 40) 0), effective_zero count)

-- no more are effective than there are
pub effective_most : (n : ℕ) (area : List ℕ) → effective_in n area ≤ n
unfolding effective_in
effective_most zero area = omega arith
effective_most (suc n) area = go (eqb (get_or area 0 0) 0) (effective_most n (drop 40 area))
  where
    go : {k : ℕ} (b : Bool) → k ≤ n → cond b 0 1 + k ≤ suc n
    go true h = omega arith
    go false h = omega arith

-- points put over others of a true count
pub record Puts (h : Held) (start count effective : ℕ) (bytes area area' : List ℕ) : Type 0 where
  pub counted : effective ≡ effective_in h.points area
  pub held_all : holds (points_of h) start count ≡ true
  pub area_long : length area ≡ h.points * 40
  pub as_many : length bytes ≡ count * 40
  pub put_there : area' ≡ put (points_of h) start bytes area

-- the count after a run of any kind was put: a run of points takes off its old effective slots and adds its new ones, any other leaves it
pub record Recounted (h : Held) (tag start count effective : ℕ) (area area' : List ℕ) : Type 0 where
  pub least : effective_among (kind_of h tag) start count area ≤ effective
  pub is :
      effective - effective_among (kind_of h tag) start count area + effective_among (kind_of h tag) start count area'
      ≡ cond (eqb tag points_tag) (effective_in h.points area') effective
  pub most : (x : ℕ) → effective ≤ x → h.points ≤ x
      → effective - effective_among (kind_of h tag) start count area + effective_among (kind_of h tag) start count area' ≤ x

pub recounted : (h : Held) (tag start count effective : ℕ) (bytes area area' : List ℕ) → (tag ≡ points_tag → Puts h start count effective bytes area area')
    → Recounted h tag start count effective area area'
recounted h tag start count effective bytes area area' p = go (eqb tag points_tag) refl
  where
    go : (b : Bool) → eqb tag points_tag ≡ b → Recounted h tag start count effective area area'
    go true e =
        let t = eqb-true _ _ e in
        let q = p t in
        let m = run_recounted h start count bytes area q.held_all q.area_long q.as_many in
        let l = run_among h start count area q.held_all q.area_long in
        let f = effective_most h.points (put (points_of h) start bytes area) in
        let c = q.counted in
        let k = kind_points h in
        rw (t, q.put_there) (record { least = rw k (omega arith); is = rw k (omega arith); most = λ x _ i. rw k (omega arith) })
    go false e =
        let k = ap (λ (n : ℕ). eqb n points_tag) (tag_of h tag) ∙ e in
        record { least = rw k (omega arith); is = rw (k, e) (omega arith); most = λ x i _. rw k (omega arith) }
