-- What a write stored, over areas, where later writes have not touched it.
use Prim.Native.Nat.{ℕ, ◌+◌, ◌-◌, ◌*◌, ◌≤◌}
use mathlib.Core.Path.{◌≡◌, refl, sym, ap, ◌∙◌, subst}
use mathlib.Core.Bool.{Bool, true, false}
use mathlib.Core.List.{List, []}
use lib.ListN.{take, drop}
use Rattle.kinds.specs.declared.Held.{Held}
use Rattle.kinds.specs.Kinds.{kind_of, held_in, run_of}
use Rattle.journal.proofs.Codec.{Bytes}
use Rattle.table.specs.declared.Message.{Message}
use Rattle.messages.proofs.Judged.{Right}
use Rattle.calls.specs.Calls.{Areas, Sent, Call, lengths_of, area_in}
use Rattle.orders.specs.Orders.{writes, new_bytes}
use Rattle.link.specs.Answer.{held, answer_of}
use Rattle.link.proofs.Carrying.{fine, areas_long}
use Rattle.demands.specs.Reading.{start_of, count_of, rest_of, untouched}
use Rattle.demands.proofs.Asking.{Took, Ordered, Open}
use Rattle.demands.proofs.Written.{wrote, areas_left, lengths_kept, open_after}
use Rattle.demands.proofs.Runs.{put_in_lem}

-- the bytes that a write stores
abbrev pub new_of : Held → Message → Sent → List ℕ
new_of h m s = new_bytes m.does (kind_of h m.tag).unit (count_of m s) (rest_of m s)

-- each part of them stands where it was put, if no later write touched it
abbrev pub Kept : Held → Areas → Message → Sent → List Sent → Type 0
Kept h a m s later =
    (number many : ℕ) → start_of m s ≤ number → number + many ≤ start_of m s + count_of m s → untouched m.tag number many later ≡ true
    → run_of (kind_of h m.tag) number many (area_in m.tag a)
    ≡ take (many * (kind_of h m.tag).unit) (drop ((number - start_of m s) * (kind_of h m.tag).unit) (new_of h m s))

-- areas that no test refuses, and a frame that was accepted, whose bytes are kept in them if it is a write
pub record Standing (h : Held) (a : Areas) (m : Message) (s : Sent) (later : List Sent) : Type 0 where
  pub is_open : Open a
  pub is_held : held_in (lengths_of a) ≡ h
  pub ordered : Ordered h m s
  pub kept : writes m.does ≡ true → Kept h a m s later

-- a query that is right for what is held is right for the areas
pub right_here : {h : Held} {a : Areas} {m : Message} {s : Sent} {later : List Sent} → Standing h a m s later → {q : Message} {c : List ℕ}
    → ((fitted release : ℕ) → Right h fitted release q c) → (fitted release : ℕ) → Right (held_in (lengths_of a)) fitted release q c
right_here t {q} {c} r fitted release = subst (λ (x : Held). Right x fitted release q c) (sym t.is_held) (r fitted release)

-- the areas that an accepted frame leaves are such
pub standing_next : (m : Message) (c : Call) → Took m c → Bytes c.areas.journal → Standing (held c) (answer_of c).areas m c.sent []
standing_next m c t bs =
    record {
      is_open = open_after m c t bs;
      is_held = ap held_in (same (writes m.does) refl);
      ordered = record { right = t.right; assured = t.assured };
      kept = λ w number many s e _.
          let r = wrote m c t w in
          ap (run_of (kind_of (held c) m.tag) number many) r.own
          ∙ put_in_lem (kind_of (held c) m.tag) (start_of m c.sent) (count_of m c.sent) (new_of (held c) m c.sent) (area_in m.tag c.areas)
          r.run.run.held_all
          (areas_long c.areas (fine c t.heard).areas m.tag)
          r.run.long
          number
          many
          s
          e;
    }
  where
    same : (b : Bool) → writes m.does ≡ b → lengths_of (answer_of c).areas ≡ lengths_of c.areas
    same true w = lengths_kept m c t w
    same false w = ap lengths_of (areas_left m c t false w)
