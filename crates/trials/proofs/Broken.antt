-- The small board's history by computing, and where each broken board fails.
use Prim.Native.Nat.{ℕ, suc, ◌-◌}
use mathlib.Core.Path.{◌≡◌, refl, sym, ap, ap₂, ◌∙◌}
use mathlib.Core.Bool.{Bool, true, cond, ◌&&◌}
use mathlib.Core.List.{List, [], ◌∷◌}
use native.Mathlib.Omega.{arith}
use lib.ListN.{length, get_or}
use borrow.Author.Tests.{eq-eqb}
use Rattle.kinds.specs.Kinds.{points_tag, columns_tag, kind_of, run_of}
use Rattle.journal.specs.Journal.{Entry, encodes, added}
use Rattle.calls.specs.Calls.{Areas, Sent, area_in}
use Rattle.refusals.specs.Refusals.{refusal_of}
use Rattle.link.specs.Answer.{held, asked}
use Rattle.table.specs.declared.Message.{Message}
use Rattle.std.specs.Prelude.{Some}
use Rattle.table.specs.Table.{message_of}
use Rattle.demands.specs.Refused.{asks_write}
use Rattle.demands.specs.Survive.{Accepted}
use Rattle.demands.proofs.Commands.{writing, changing_integers}
use Rattle.demands.specs.Reading.{start_of, count_of}
use Rattle.trials.proofs.Useless.{zero_bytes, made}
use Rattle.trials.specs.Cases.{holding}
use Rattle.demands.specs.History.{Conduct, Event, frame, step_back, call_on, after, accepted_write, alone, entries, entry_by, account, Holds, EveryHistory}
use Rattle.trials.specs.Broken.{lot_code, point_one, two_points, two_integers, clear_one, unknown, smallest, small, Worked, enters_new, clears, refusal_writes, forgets, takes_nothing, enters_all, NotWhole, Broken}
use Rattle.trials.specs.Useless.{behind_first, stores_nothing, stores_first, used_all, used_more}
use Rattle.trials.proofs.Computing.{a_call}

pub worked : Worked
unfolding a_call
worked = record { one_taken = refl; code_stays = refl; accounted = refl; both_slots = (refl, refl); all_taken = refl; none_left = refl; flag_set = refl; flag_taken = refl; integers_stay = refl; integers_taken = refl; oldest_dropped = refl }

-- two histories
abbrev written_back : List Event
written_back = frame lot_code ∷ step_back ∷ []

abbrev second_back : List Event
second_back = frame lot_code ∷ frame point_one ∷ step_back ∷ []

-- the first column, and what it is where the standing writes are done alone
abbrev there : Conduct → List Event → ℕ
there board events = get_or (small board events).areas.columns 0 0

abbrev due : Conduct → List Event → ℕ
due board events = get_or (alone board smallest (small board events).standing_writes).columns 0 0

-- what a board that keeps the demand has come to
pub kept_so : (board : Conduct) → EveryHistory board → (events : List Event) → Holds board (holding 2) 580 (small board events)
kept_so board h events = h (holding 2) 580 (record { some_points = omega arith; points = omega arith; integers = omega arith; flags = omega arith }) (omega arith) (omega arith) events

-- a history whose first column is another
fails : (board : Conduct) (events : List Event) (x y : ℕ) → there board events ≡ x → due board events ≡ y → (x ≡ y → ⊥) → EveryHistory board → ⊥
fails board events x y e f k h = k (sym e ∙ ap (λ (s : List ℕ). get_or s 0 0) ((kept_so board h events).things columns_tag) ∙ f)

-- the used length after one write, and that of the entries that are read there
abbrev used_there : Conduct → ℕ
used_there board = (small board (frame point_one ∷ [])).areas.kept.used

abbrev used_due : Conduct → ℕ
used_due board = length (encodes (entries (small board (frame point_one ∷ [])).areas))

-- a used length that is another
invented : (board : Conduct) (x y : ℕ) → used_there board ≡ x → used_due board ≡ y → (x ≡ y → ⊥) → EveryHistory board → ⊥
invented board x y e f k h = k (sym e ∙ (kept_so board h (frame point_one ∷ [])).used ∙ f)

-- a board that forgets, after one write; it has one entry after two
abbrev once : Areas
once = (small forgets (frame lot_code ∷ [])).areas

abbrev twice : Areas
twice = after forgets once (frame clear_one)

record Told : Type 0 where
  enters_new_lem : (there enters_new written_back ≡ 0x30) × (due enters_new written_back ≡ 0)
  clears_too : (there clears second_back ≡ 0) × (due clears second_back ≡ 0x30)
  refusal_writes_lem : (there refusal_writes (frame unknown ∷ []) ≡ 0x30) × (due refusal_writes (frame unknown ∷ []) ≡ 0)
  takes_nothing_lem : (there takes_nothing written_back ≡ 0x30) × (due takes_nothing written_back ≡ 0)
  second_accepted : accepted_write forgets once clear_one ≡ true
  two_refused : refusal_of (call_on smallest two_points) ≡ 0
  two_asked : asks_write (asked (call_on smallest two_points)) ≡ true
  two_known : message_of 1 two_points.frame ≡ Some writing
  integers_refused : refusal_of (call_on smallest two_integers) ≡ 0
  integers_asked : asks_write (asked (call_on smallest two_integers)) ≡ true
  integers_known : message_of 1 two_integers.frame ≡ Some changing_integers
  second_before : (get_or (behind_first writing (call_on smallest two_points) smallest) 0 0 ≡ 0)
      × (get_or (behind_first changing_integers (call_on smallest two_integers) smallest) 3 0 ≡ 0)
  first_due : get_or (account (holding 2) smallest (two_points ∷ [])).points 0 0 ≡ 1
  second_due : (get_or (behind_first writing (call_on smallest two_points) (account (holding 2) smallest (two_points ∷ []))) 0 0 ≡ 1)
      × (get_or (behind_first changing_integers (call_on smallest two_integers) (account (holding 2) smallest (two_integers ∷ []))) 3 0 ≡ 2)
  all_entered : accepted_write enters_all smallest point_one ≡ true
  all_long : (length (encodes (entries (after enters_all smallest (frame point_one)))) ≡ 85)
      × (length (encodes (added 580 (entries smallest) (entry_by (holding 2) smallest point_one))) ≡ 45)
  all_used : (used_there used_all ≡ 580) × (used_due used_all ≡ 2720)
  one_more_lem : (used_there used_more ≡ 46) × (used_due used_more ≡ 50)
  entry_lost : (length (entries twice) ≡ 1) × (length (added 580 (entries once) (entry_by (holding 2) once clear_one)) ≡ 2)

told : Told
unfolding a_call
told =
    record {
      enters_new_lem = (refl, refl);
      clears_too = (refl, refl);
      refusal_writes_lem = (refl, refl);
      takes_nothing_lem = (refl, refl);
      second_accepted = refl;
      two_refused = refl;
      two_asked = refl;
      two_known = refl;
      integers_refused = refl;
      integers_asked = refl;
      integers_known = refl;
      second_before = (refl, refl);
      first_due = refl;
      second_due = (refl, refl);
      all_entered = refl;
      all_long = (refl, refl);
      all_used = (refl, refl);
      one_more_lem = (refl, refl);
      entry_lost = (refl, refl);
    }

-- two points, and two integers, written to a fresh board
is_two : Accepted 0x244 (call_on smallest two_points)
is_two = record { message = writing; named = refl; known = told.two_known; number = told.two_refused; bytes = zero_bytes 580 }

is_integers : Accepted 0x24C (call_on smallest two_integers)
is_integers =
    record { message = changing_integers; named = refl; known = told.integers_known; number = told.integers_refused; bytes = zero_bytes 580 }

module _ (board : Conduct) (h : EveryHistory board) (s : Sent) (n : refusal_of (call_on smallest s) ≡ 0) (w : asks_write (asked (call_on smallest s)) ≡ true) where
  -- a write is accepted, since the table accepts it, and stands
  is_accepted : (board.answer (call_on smallest s)).number ≡ 0
  is_accepted = (kept_so board h []).numbers s ∙ n

  is_write : accepted_write board smallest s ≡ true
  is_write = ap₂ (λ (x y : Bool). x && y) (eq-eqb _ 0 is_accepted) w

  -- so the area of each kind is what it says
  area_due : (tag : ℕ) → area_in tag (board.answer (call_on smallest s)).areas ≡ area_in tag (account (holding 2) smallest (s ∷ []))
  area_due tag =
      (kept_so board h (frame s ∷ [])).whole_writes tag
      ∙ ap (λ (b : Bool). area_in tag (account (holding 2) smallest (cond b (s ∷ []) []))) is_write

  -- and a board that stores what it names behind the first does not keep it
  behind_due : (m : Message) → behind_first m (call_on smallest s) (board.answer (call_on smallest s)).areas ≡ behind_first m (call_on smallest s) smallest
      → behind_first m (call_on smallest s) smallest ≡ behind_first m (call_on smallest s) (account (holding 2) smallest (s ∷ []))
  behind_due m e =
      let c = call_on smallest s in
      sym e ∙ ap (run_of (kind_of (held c) m.tag) (suc (start_of m s)) (count_of m s - 1)) (area_due m.tag)

pub not_whole : NotWhole
unfolding is_two is_integers
not_whole =
    record {
      refuses_all = λ board n h. n (call_on smallest two_points) (is_accepted board h two_points told.two_refused told.two_asked);
      stores_nothing_lem = λ board n h.
          let f : ◌≡◌ {A = ℕ} 0 1 =
          ap (λ (s : List ℕ). get_or s 0 0) (sym (n (call_on smallest two_points)) ∙ area_due board h two_points told.two_refused told.two_asked points_tag) ∙ told.first_due in
          omega (arith, f);
      stores_first_lem = λ board n h.
          let e = behind_due board h two_points told.two_refused told.two_asked writing (n (call_on smallest two_points) is_two) in
          let f : ◌≡◌ {A = ℕ} 0 1 = sym told.second_before.0 ∙ ap (λ (s : List ℕ). get_or s 0 0) e ∙ told.second_due.0 in
          omega (arith, f);
      stores_first_integer = λ board n h.
          let e = behind_due board h two_integers told.integers_refused told.integers_asked changing_integers (n (call_on smallest two_integers) is_integers) in
          let f : ◌≡◌ {A = ℕ} 0 2 = sym told.second_before.1 ∙ ap (λ (s : List ℕ). get_or s 3 0) e ∙ told.second_due.1 in
          omega (arith, f);
    }

pub broken : Broken
broken =
    record {
      enters_new_lem = fails enters_new written_back 0x30 0 told.enters_new_lem.0 told.enters_new_lem.1 (λ q. omega (arith, q));
      enters_all_lem = λ h.
          let v = kept_so enters_all h [] in
          let f : ◌≡◌ {A = ℕ} 85 45 = sym told.all_long.0 ∙ ap (λ (es : List Entry). length (encodes es)) (v.adds point_one told.all_entered) ∙ told.all_long.1 in
          omega (arith, f);
      clears_too = fails clears second_back 0 0x30 told.clears_too.0 told.clears_too.1 (λ q. omega (arith, q));
      refusal_writes_lem = fails refusal_writes (frame unknown ∷ []) 0x30 0 told.refusal_writes_lem.0 told.refusal_writes_lem.1 (λ q. omega (arith, q));
      forgets_entries = λ h.
          let v = kept_so forgets h (frame lot_code ∷ []) in
          let f : ◌≡◌ {A = ℕ} 1 2 = sym told.entry_lost.0 ∙ ap length (v.adds clear_one told.second_accepted) ∙ told.entry_lost.1 in
          omega (arith, f);
      takes_nothing_lem = fails takes_nothing written_back 0x30 0 told.takes_nothing_lem.0 told.takes_nothing_lem.1 (λ q. omega (arith, q));
      stores_first_lem = not_whole.stores_first_lem (stores_first 0x244) made.stores_first_lem;
      stores_first_integer = not_whole.stores_first_integer (stores_first 0x24C) made.stores_first_integer;
      stores_nothing_lem = not_whole.stores_nothing_lem stores_nothing made.stores_nothing_lem;
      used_all_lem = invented used_all 580 2720 told.all_used.0 told.all_used.1 (λ q. omega (arith, q));
      used_more_lem = invented used_more 46 50 told.one_more_lem.0 told.one_more_lem.1 (λ q. omega (arith, q));
    }
