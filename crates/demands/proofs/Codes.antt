-- 24EH, then 210H, and 24CH, then 20EH: the very digits that were sent, in capitals; so for a run of any kind.
use Prim.Native.Nat.{ℕ, ◌+◌, ◌-◌, ◌*◌, ◌≤◌, ◌<◌, ◌^◌}
use mathlib.Core.Path.{◌≡◌, refl, sym, ap, ap₂, ◌∙◌, subst}
use mathlib.Core.Bool.{Bool, true, false}
use mathlib.Core.List.{List, ◌++◌, append_assoc}
use native.Mathlib.Omega.{arith}
use lib.ListN.{length, take, drop, length-take, length-drop, length-append}
use lib.Seq.{length-take-le, take-add, take_all, take_at, drop_at}
use borrow.Author.Tests.{eqb-true, ne_eqb}
use Rattle.digits.specs.Digits.{byte_of, capitals, digits_of, all_digits, number_of}
use Rattle.digits.specs.Text.{text}
use Rattle.digits.proofs.Inverse.{inverse}
use Rattle.digits.proofs.Capitals.{length_capitals, capitals_append, rejoined}
use Rattle.digits.proofs.Bools.{was_not}
use Rattle.frames.proofs.TestID.{is200}
use Rattle.kinds.specs.declared.Kind.{Kind}
use Rattle.kinds.specs.declared.Held.{Held}
use Rattle.kinds.specs.Kinds.{Sound, columns_tag, integers_tag, kind_of, held_in, holds, run_of}
use Rattle.kinds.proofs.Known.{kind_columns, kind_integers, within, run_length}
use Rattle.pairs.specs.Pairs.{bytes_in, digits_in}
use Rattle.pairs.proofs.Paired.{length_digits_in}
use Rattle.pairs.proofs.Promised.{every_digit}
use Rattle.points.proofs.Parts.{all_take, all_drop, all_part}
use Rattle.table.specs.declared.Follows.TheVariants.{Nothing, RunBytes}
use Rattle.table.specs.declared.Action.TheVariants.{ReadRun, ChangeRun}
use Rattle.table.specs.declared.Message.{Message}
use Rattle.table.specs.Table.{row, fields_of, start_in, count_in}
use Rattle.heads.specs.Heads.{head_of, run_text}
use Rattle.calls.specs.Calls.{Areas, Sent, sent_of, lengths_of, area_in}
use Rattle.messages.proofs.Judged.{Right}
use Rattle.refusals.proofs.Tested.{sound}
use Rattle.orders.specs.Orders.{said_by}
use Rattle.link.proofs.Carrying.{areas_long}
use Rattle.demands.proofs.Own.{own as ours}
use Rattle.demands.specs.Reading.{content, start_of, count_of, rest_of, untouched, Says, asks_run, digits_from, kind_in, RunSaid, RunRead, RunTold}
use Rattle.demands.proofs.Commands.{message_named, Names, named}
use Rattle.demands.proofs.Asking.{Open, says, same_start, same_count, query_right, start_said, count_said, asks_right}
use Rattle.demands.proofs.Parts.{digits_part}
use Rattle.demands.proofs.Runs.{run_in}
use Rattle.demands.proofs.Kept.{Standing}

-- fields that a reply repeats are the very digits that were sent, in capitals
pub fields_back : (program start count : ℕ) (s : List ℕ) → all_digits s ≡ true → program + start + count ≤ length s → number_of (take program s) ≡ 0
    → digits_of program 0 ++ (digits_of start (number_of (take start (drop program s))) ++ digits_of count (number_of (take count (drop (program + start) s))))
    ≡ capitals (take (program + start + count) s)
fields_back program start count s a l z =
    let p : digits_of program 0 ≡ capitals (take program s) =
    ap (digits_of program) (sym z) ∙ (inverse program).digits_of_value (take program s) (length-take-le program s (omega arith)) (all_take program s a) in
    let q = (inverse start).digits_of_value (take start (drop program s)) (length-take-le start (drop program s) (simp length-drop (omega arith))) (all_part start program s a) in
    let r =
    (inverse count).digits_of_value (take count (drop (program + start) s)) (length-take-le count (drop (program + start) s) (simp length-drop (omega arith)))
    (all_part count (program + start) s a) in
    let front = take program s in
    let mid = take start (drop program s) in
    let back = take count (drop (program + start) s) in
    rw (p, q, r, take-add (program + start) count s, take-add program start s)
    (sym (append_assoc (capitals front) (capitals mid) (capitals back))
    ∙ ap (λ (x : List ℕ). x ++ capitals back) (sym (capitals_append front mid))
    ∙ sym (capitals_append (front ++ mid) back))

-- a run of any kind that is changed, and a query that reads it, with the same fields
module _ (id id' program start count tag : ℕ) (repeats : Bool) where
  abbrev change : Message
  change = row id program start count tag RunBytes ChangeRun repeats

  abbrev read : Message
  read = row id' program start count tag Nothing ReadRun true

  module _ {h : Held} {a : Areas} {s : Sent} {later : List Sent} (t : Standing h a change s later) where
    abbrev k : Kind
    k = kind_of h tag

    -- the digits that were sent, as bytes and back
    sent_back : digits_in (bytes_in (rest_of change s)) ≡ capitals (rest_of change s)
    sent_back =
        let d : length (rest_of change s) ≡ 2 * (count_of change s * k.unit) = eqb-true _ _ t.ordered.assured.follows in
        every_digit (rest_of change s) (count_of change s * k.unit) d (all_drop (fields_of change) (content s) (t.ordered.assured.digits refl))

    -- the digits of a part that is kept are that part of the digits that were sent
    pub part_back : (number many : ℕ) → start_of change s ≤ number → number + many ≤ start_of change s + count_of change s → untouched tag number many later ≡ true
        → digits_in (run_of k number many (area_in tag a)) ≡ take (2 * (many * k.unit)) (drop (2 * ((number - start_of change s) * k.unit)) (capitals (rest_of change s)))
    part_back number many l m u =
        ap digits_in (t.kept refl number many l m u)
        ∙ sym (digits_part (many * k.unit) ((number - start_of change s) * k.unit) (bytes_in (rest_of change s)))
        ∙ ap (λ (x : List ℕ). take (2 * (many * k.unit)) (drop (2 * ((number - start_of change s) * k.unit)) x)) sent_back

    all_back : untouched tag (start_of change s) (count_of change s) later ≡ true
        → digits_in (run_of k (start_of change s) (count_of change s) (area_in tag a)) ≡ capitals (rest_of change s)
    all_back u =
        let n : start_of change s - start_of change s ≡ 0 = omega arith in
        let z : 2 * ((start_of change s - start_of change s) * k.unit) ≡ 0 = ap (λ (x : ℕ). 2 * (x * k.unit)) n ∙ omega arith in
        let d : length (rest_of change s) ≡ 2 * (count_of change s * k.unit) = eqb-true _ _ t.ordered.assured.follows in
        part_back (start_of change s) (count_of change s) (omega arith) (omega arith) u
        ∙ ap (λ (x : ℕ). take (2 * (count_of change s * k.unit)) (drop x (capitals (rest_of change s)))) z
        ∙ take_all (2 * (count_of change s * k.unit)) (capitals (rest_of change s)) (omega (arith, length_capitals (rest_of change s)))

    -- what a query of any run says
    pub said_run : (number many : ℕ) (x : Sent) (frame : List ℕ)
        → said_by ReadRun (held_in (lengths_of a)) (sent_of frame x.axes x.settings x.reply) a.kept read number many (area_in tag a)
        ≡ head_of read number many ++ digits_in (run_of k number many (area_in tag a))
    said_run number many x frame = ap (λ (y : Held). run_text read (kind_of y tag) number many (area_in tag a)) t.is_held

    -- a query of the same run says the ID and the very content that was sent, in capitals
    pub said_back : 1 ≤ count → untouched tag (start_of change s) (count_of change s) later ≡ true → (x : Sent) (frame : List ℕ)
        → said_by ReadRun (held_in (lengths_of a)) (sent_of frame x.axes x.settings x.reply) a.kept read (start_in read (capitals (take (fields_of change) (content s))))
        (count_in read (capitals (take (fields_of change) (content s))))
        (area_in tag a)
        ≡ digits_of 3 id' ++ capitals (content s)
    said_back some u x frame =
        let c = content s in
        let n : count_of change s ≡ number_of (take count (drop (program + start) c)) = rw (ne_eqb count 0 (λ e. omega (arith, some, e))) in
        let o = t.ordered in
        said_run (start_in read (capitals (take (fields_of change) c))) (count_in read (capitals (take (fields_of change) c))) x frame
        ∙ ap₂ (λ (n m : ℕ). head_of read n m ++ digits_in (run_of k n m (area_in tag a)))
        (same_start id id' program start count tag RunBytes ChangeRun ReadRun repeats true c)
        (same_count id id' program start count tag RunBytes ChangeRun ReadRun repeats true c)
        ∙ ap (λ (y : List ℕ). head_of read (start_of change s) (count_of change s) ++ y) (all_back u)
        ∙ append_assoc (digits_of 3 id') (digits_of program 0 ++ (digits_of start (start_of change s) ++ digits_of count (count_of change s))) (capitals (drop (fields_of change) c))
        ∙ ap (λ (y : ℕ). digits_of 3 id' ++ ((digits_of program 0 ++ (digits_of start (start_of change s) ++ digits_of count y)) ++ capitals (drop (fields_of change) c))) n
        ∙ ap (λ (y : List ℕ). digits_of 3 id' ++ (y ++ capitals (drop (fields_of change) c)))
        (fields_back program start count c (o.assured.digits refl) o.assured.fields (eqb-true _ _ (was_not o.right.program)))
        ∙ ap (λ (y : List ℕ). digits_of 3 id' ++ y) (rejoined (fields_of change) c)

-- the query of a kind's runs: as the table has it, and the numbers of its kind fit into its fields
pub record Query (name : List ℕ) (id tag : ℕ) : Type 0 where
  pub is_named : Names name (row id 2 3 2 tag Nothing ReadRun true)
  pub is_written : digits_of 3 id ≡ name
  pub other : is200 name ≡ false
  pub narrow : (h : Held) → Sound h → (kind_of h tag).first + (kind_of h tag).held ≤ 4096

pub of_columns : Query (text "210") 0x210 columns_tag
unfolding byte_of
of_columns = record { is_named = named.2; is_written = refl; other = refl; narrow = λ h s. rw (kind_columns h) (omega arith) }

pub of_integers : Query (text "20E") 0x20E integers_tag
unfolding byte_of
of_integers = record { is_named = named.3; is_written = refl; other = refl; narrow = λ h s. rw (kind_integers h) (omega (arith, s.integers)) }

module _ {name : List ℕ} {id tag : ℕ} (q : Query name id tag) where
  three : length name ≡ 3
  three = ap length (sym q.is_written) ∙ (inverse 3).as_many id

  -- what is asked by it
  asks_it : (a : Areas) (fields said : List ℕ) → Open a → length fields ≤ 7
      → ((fitted release : ℕ) → Right (held_in (lengths_of a)) fitted release (row id 2 3 2 tag Nothing ReadRun true) fields)
      → ((h : Sent) (frame : List ℕ)
      → said_by ReadRun (held_in (lengths_of a)) (sent_of frame h.axes h.settings h.reply) a.kept (row id 2 3 2 tag Nothing ReadRun true)
      (start_in (row id 2 3 2 tag Nothing ReadRun true) fields)
      (count_in (row id 2 3 2 tag Nothing ReadRun true) fields)
      (area_in tag a)
      ≡ said)
      → Says ours a (name ++ fields) said
  asks_it a fields said o l r t =
      let m = row id 2 3 2 tag Nothing ReadRun true in
      let d : drop 3 (name ++ fields) ≡ fields = drop_at name fields 3 three in
      let n = length-append name fields in
      says a (name ++ fields) said m o refl (omega (arith, n, three)) (omega (arith, n, three, l)) (rw (take_at name fields 3 three, q.other)) (λ release. ap (message_named release) (take_at name fields 3 three) ∙ q.is_named release)
      (λ fitted release. subst (Right (held_in (lengths_of a)) fitted release m) (sym d) (r fitted release))
      (λ h frame.
      ap (λ (x : List ℕ). said_by ReadRun (held_in (lengths_of a)) (sent_of frame h.axes h.settings h.reply) a.kept m (start_in m x) (count_in m x) (area_in tag a)) d ∙ t h frame)

  -- of any numbers that are held it says two digits for each byte
  pub reads_any : (a : Areas) → Open a → RunTold ours a name tag
  unfolding byte_of
  reads_any a o start count some few all =
      let h : Held = held_in (lengths_of a) in
      let k = kind_of h tag in
      let w = within k start count all in
      let f : start < 16 ^ 3 = omega (arith, w.1, some, q.narrow h (sound (lengths_of a) o.points o.variables)) in
      let g : count < 16 ^ 2 = omega arith in
      asks_it a (text "00" ++ (digits_of 3 start ++ digits_of 2 count)) (asks_run name start count ++ digits_in (run_of k start count (area_in tag a))) o
      (simp length-append (omega (arith, (inverse 3).as_many start, (inverse 2).as_many count)))
      (asks_right id 2 3 2 tag ReadRun true start count f g (omega arith) h some all)
      (λ x frame.
      ap₂ (λ (y z : ℕ). head_of (row id 2 3 2 tag Nothing ReadRun true) y z ++ digits_in (run_of k y z (area_in tag a)))
      (start_said id 2 3 2 tag ReadRun true start count f g (omega arith))
      (count_said id 2 3 2 tag ReadRun true start count f g (omega arith))
      ∙ ap (λ (y : List ℕ). (y ++ (text "00" ++ (digits_of 3 start ++ digits_of 2 count))) ++ digits_in (run_of k start count (area_in tag a))) q.is_written)

  -- a change of such a run that stands
  module _ (changed : ℕ) (repeats : Bool) {a : Areas} {s : Sent} {later : List Sent}
      (t : Standing (held_in (lengths_of a)) a (row changed 2 3 2 tag RunBytes ChangeRun repeats) s later) where
    abbrev m : Message
    m = row changed 2 3 2 tag RunBytes ChangeRun repeats

    whole : untouched tag (start_of m s) (count_of m s) later ≡ true → Says ours a (name ++ capitals (take 7 (content s))) (name ++ capitals (content s))
    whole u =
        asks_it a (capitals (take 7 (content s))) (name ++ capitals (content s)) t.is_open (simp (length_capitals, length-take) (omega arith))
        (query_right changed id 2 3 2 tag RunBytes ChangeRun ReadRun repeats true (held_in (lengths_of a)) s t.ordered refl)
        (λ x frame. said_back changed id 2 3 2 tag repeats t (omega arith) u x frame ∙ ap (λ (y : List ℕ). y ++ capitals (content s)) q.is_written)

    -- numbers that a host may ask for
    module _ (start count : ℕ) (some : 1 ≤ count) (few : count ≤ 255) (all : holds (kind_in tag a) start count ≡ true) where
      abbrev here : List ℕ
      here = run_of (kind_in tag a) start count (area_in tag a)

      in_place : (number many : ℕ) → start_of m s ≤ number → number + many ≤ start_of m s + count_of m s → start ≤ number → number + many ≤ start + count
          → untouched tag number many later ≡ true
          → digits_from (kind_in tag a).unit start number many (digits_in here) ≡ digits_from (kind_in tag a).unit (start_of m s) number many (capitals (rest_of m s))
      in_place number many l n p r u =
          let k = kind_in tag a in
          digits_part (many * k.unit) ((number - start) * k.unit) here
          ∙ ap digits_in (run_in k start count number many (area_in tag a) (within k start count all).0 p r)
          ∙ part_back changed id 2 3 2 tag repeats t number many l n u

      said_here : RunSaid ours a name tag m s later start count
      said_here =
          record {
            digits = digits_in here;
            says = reads_any a t.is_open start count some few all;
            as_many = length_digits_in here ∙ ap (λ (x : ℕ). 2 * x) (run_length (kind_in tag a) start count all (area_in tag a) (areas_long a t.is_open tag));
            in_place = in_place;
          }

    pub run_read : RunRead ours a name tag m s later
    run_read = record { kind = refl; whole = whole; any_run = said_here }
