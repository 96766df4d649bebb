-- Texts laid from byte 3 on, and replies closed over them.
use Prim.Native.Nat.{ℕ, ◌+◌, ◌-◌, ◌*◌, ◌/◌, ◌≤◌}
use mathlib.Core.Path.{◌≡◌, refl, sym, ap, ◌∙◌}
use mathlib.Core.Bool.{true, false}
use mathlib.Core.List.{List, ◌++◌, append_assoc}
use native.Mathlib.Omega.{arith}
use lib.ListN.{length, take, drop, length-append, length-drop}
use lib.Seq.{length-take-le}
use Rattle.digits.specs.Digits.{digits_of}
use Rattle.digits.specs.Laid.{laid}
use Rattle.digits.proofs.Laid.{laid_on}
use Rattle.digits.proofs.Inverse.{as_many}
use Rattle.kinds.specs.declared.Kind.{Kind}
use Rattle.kinds.specs.Kinds.{place_of, run_of}
use Rattle.pairs.specs.Pairs.{digits_in}
use Rattle.pairs.proofs.Paired.{length_digits_in}
use Rattle.frames.specs.Frame.{reply_of, normal}
use Rattle.frames.proofs.Closing.{length_reply, closed_over}
use Rattle.table.specs.declared.Message.{Message}
use Rattle.table.specs.Table.{Narrow}
use Rattle.heads.specs.Laws.{Replied}
use Rattle.flags.specs.Flags.{eights}
use Rattle.flags.proofs.Promised.{shown}
use Rattle.heads.specs.Heads.{id_of, head_of, run_text, flags_text}

-- a reply closed over a text that was laid
pub replied : (d laid-text closed text : List ℕ) (st n long : ℕ) → laid-text ≡ laid d 3 text → length text ≡ n → n + 7 ≤ length d → long ≡ n + 7
    → closed ≡ laid laid-text 0 (reply_of normal st (take n (drop 3 laid-text))) → Replied d closed long st text
replied d r c text st n long e l f g h =
    record {
      length_is = g ∙ ap (λ (x : ℕ). x + 7) (sym l) ∙ sym (length_reply normal st text);
      bytes = h ∙ rw e (closed_over d text normal st n l f);
    }

-- a text that starts with the message ID
pub behind : (d r1 r2 s : List ℕ) (m : Message) → 3 ≤ length d → r1 ≡ laid d 3 (id_of m) → r2 ≡ laid r1 6 s → r2 ≡ laid d 3 (id_of m ++ s)
behind d r1 r2 s m h e f = f ∙ rw e (laid_on d (id_of m) s 3 6 refl h)

-- the fields that a reply repeats: program number 00, start and count
abbrev fields_text : Message → ℕ → ℕ → List ℕ
fields_text m start count = digits_of m.program 0 ++ (digits_of m.start start ++ digits_of m.count count)

module _ (d : List ℕ) (m : Message) (start count : ℕ) where
  pub fields_laid : (r1 r2 r3 : List ℕ) → 6 ≤ length d → r1 ≡ laid d 6 (digits_of m.program 0)
      → r2 ≡ laid r1 (6 + m.program) (digits_of m.start start) → r3 ≡ laid r2 (6 + m.program + m.start) (digits_of m.count count)
      → r3 ≡ laid d 6 (fields_text m start count)
  fields_laid r1 r2 r3 h e f g =
      let v = digits_of m.program 0 in
      let w = digits_of m.start start in
      let x = digits_of m.count count in
      let p : 6 + length v ≡ 6 + m.program = ap (λ (n : ℕ). 6 + n) (as_many m.program 0) in
      let q : 6 + length (v ++ w) ≡ 6 + m.program + m.start = omega (arith, length-append v w, as_many m.program 0, as_many m.start start) in
      g
      ∙ rw (f, e, laid_on d v w 6 (6 + m.program) p h) (laid_on d (v ++ w) x 6 (6 + m.program + m.start) q h)
      ∙ ap (laid d 6) (append_assoc v w x)

  length_fields : length (fields_text m start count) ≡ m.program + (m.start + m.count)
  length_fields = simp (length-append, as_many)

  module _ (r1 : List ℕ) (room : 3 ≤ length d) (e : r1 ≡ laid d 3 (id_of m)) where
    pub head_repeating : (r2 : List ℕ) (end : ℕ) → Narrow m → m.repeats ≡ true → r2 ≡ laid r1 6 (fields_text m start count)
        → end ≡ 6 + (m.program + (m.start + m.count))
        → ((end ≡ 3 + length (head_of m start count)) × (end ≤ 18)) × (r2 ≡ laid d 3 (head_of m start count))
    head_repeating r2 end n t f g =
        rw t ((omega (arith, length_fields), omega (arith, n.program, n.start, n.count)), behind d r1 r2 (fields_text m start count) m room e f)

    pub head_alone : m.repeats ≡ false → ((6 ≡ 3 + length (head_of m start count)) × (6 ≤ 18)) × (r1 ≡ laid d 3 (head_of m start count))
    head_alone t = rw t ((refl, omega arith), e)

-- 210H, 20EH and 20DH: the head, then what is shown of the run's bytes
pub run_laid : (m : Message) (k : Kind) (start count end : ℕ) (area run : List ℕ) → end ≡ 3 + length (head_of m start count) → run ≡ run_of k start count area
    → (shows : List ℕ → List ℕ) (d r1 r2 : List ℕ) → 3 ≤ length d → r1 ≡ laid d 3 (head_of m start count) → r2 ≡ laid r1 end (shows run)
    → r2 ≡ laid d 3 (head_of m start count ++ shows (run_of k start count area))
run_laid m k start count end area run ends is shows d r1 r2 h e f =
    f ∙ rw (e, is) (laid_on d (head_of m start count) (shows (run_of k start count area)) 3 end (sym ends) h)

-- and how long such a text is
module _ (m : Message) (k : Kind) (start count end at many : ℕ) (area : List ℕ) (ends : end ≡ 3 + length (head_of m start count)) (where-is : at ≡ place_of k start)
    (run : many ≡ count * k.unit) (h : place_of k start + count * k.unit ≤ length area) where
  run_long : length (run_of k start count area) ≡ many
  unfolding run_of
  run_long = length-take-le (count * k.unit) (drop (place_of k start) area) (simp length-drop (omega arith)) ∙ sym run

  pub length_run : length (run_text m k start count area) ≡ end - 3 + 2 * many
  length_run =
      let r = run_of k start count area in
      omega (arith, length-append (head_of m start count) (digits_in r), length_digits_in r, run_long)

  pub length_flags : length (flags_text m k start count area) ≡ end - 3 + 2 * ((many + 7) / 8)
  length_flags =
      let r = run_of k start count area in
      omega (arith, length-append (head_of m start count) (digits_in (eights 0 r)), length_digits_in (eights 0 r), (shown r).as_many, run_long)
