-- Keeping the newest entries that fit.
use Prim.Native.Nat.{ℕ, ◌+◌, ◌-◌, ◌≤◌, ◌<◌}
use mathlib.Core.Path.{◌≡◌, refl, sym, ap, ◌∙◌}
use mathlib.Core.Bool.{true}
use mathlib.Core.List.{List, [], ◌∷◌}
use native.Mathlib.Omega.{arith}
use lib.ListN.{length, drop, length-drop}
use borrow.Author.Tests.{le-leb, lt-leb}
use Rattle.kinds.specs.declared.Held.{Held}
use Rattle.journal.specs.Journal.{Entry, encodes, front_of, whole, entry_at, entries_in, kept}
use Rattle.journal.proofs.Walk.{turn_le, turn_whole, turn_some, turn_entries}
use Rattle.journal.proofs.Codec.{Bytes, bytes_drop, encoding}

-- all are kept where all fit, and the oldest goes where they do not
pub kept_all : (room : ℕ) (es : List Entry) → length (encodes es) ≤ room → kept room es ≡ es
unfolding kept
kept_all room [] h = refl
kept_all room (e ∷ es) h = rw (le-leb _ _ h)

pub kept_fewer : (room : ℕ) (e : Entry) (es : List Entry) → room < length (encodes (e ∷ es)) → kept room (e ∷ es) ≡ kept room es
unfolding kept
kept_fewer room e es h = rw (lt-leb _ _ h)

-- the loop that looks for how much goes: what is kept of the rest is what is kept of all
pub record Cutting (held : Held) (over : ℕ) (b : List ℕ) (at : ℕ) : Type 0 where
  pub within : at ≤ length b
  pub good : whole held 0 (drop at b) ≡ true
  pub same : kept (length b - over) (entries_in held 0 (drop at b)) ≡ kept (length b - over) (entries_in held 0 b)

pub cutting_first : (held : Held) (over : ℕ) (b : List ℕ) → whole held 0 b ≡ true → Cutting held over b 0
cutting_first held over b w = record { within = omega arith; good = w; same = refl }

module _ (held : Held) (over : ℕ) (b : List ℕ) (bs : Bytes b) (at : ℕ) (c : Cutting held over b at) where
  rest_bytes : encodes (entries_in held 0 (drop at b)) ≡ drop at b
  rest_bytes = (encoding held (drop at b) (bytes_drop at b bs) c.good).1

  rest_length : length (encodes (entries_in held 0 (drop at b))) ≡ length b - at
  rest_length = ap length rest_bytes ∙ length-drop at b

  pub cutting_next : (s : ℕ) → s ≡ front_of held (drop at b) → over ≤ length b → at < over → (at < at + s) × Cutting held over b (at + s)
  cutting_next s is h k =
      let p : 0 < s = turn_some held s at b is c.good (omega arith) in
      let t = turn_entries held s at b is p in
      let l : length (encodes (entry_at s (drop at b) ∷ entries_in held 0 (drop (at + s) b))) ≡ length b - at = rw t at rest_length in (
        omega arith,
        record {
          within = turn_le held s at b is c.within;
          good = turn_whole held s at b is p ∙ c.good;
          same =
              sym (kept_fewer (length b - over) (entry_at s (drop at b)) (entries_in held 0 (drop (at + s) b)) (omega arith))
              ∙ ap (kept (length b - over)) (sym t)
              ∙ c.same;
        },
      )

  pub cutting_done : over ≤ at → drop at b ≡ encodes (kept (length b - over) (entries_in held 0 b))
  cutting_done h =
      sym rest_bytes ∙ ap encodes (sym (kept_all (length b - over) (entries_in held 0 (drop at b)) (omega (arith, rest_length, c.within))) ∙ c.same)
