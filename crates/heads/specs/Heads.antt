-- Document 01, "Each message", and document 02, requests a and l: what a normal reply says after its station; source document 000, sections 4-3-8, 4-3-9
-- and 4-3-11.
use Rattle.std.specs.Prelude.{ℕ, cond, List, [], ◌++◌}
use Rattle.digits.specs.Digits.{digits_of}
use Rattle.kinds.specs.declared.Kind.{Kind}
use Rattle.kinds.specs.Kinds.{run_of}
use Rattle.pairs.specs.Pairs.{digits_in}
use Rattle.flags.specs.Flags.{eights}
use Rattle.table.specs.declared.Message.{Message}

-- the message ID, its number in capitals (02, l)
abbrev pub id_of : Message → List ℕ
id_of m = digits_of 3 m.id

-- the ID and, where "the reply repeats these", program number 00, start and count, as the numbers that were read
abbrev pub head_of : Message → ℕ → ℕ → List ℕ
head_of m start count =
    id_of m ++ cond m.repeats (digits_of m.program 0 ++ (digits_of m.start start ++ digits_of m.count count)) []

-- 210H: "The reply repeats these and adds two digits for each column": for each byte of a run of any kind, so eight for each integer (20EH)
abbrev pub run_text : Message → Kind → ℕ → ℕ → List ℕ → List ℕ
run_text m k start count area = head_of m start count ++ digits_in (run_of k start count area)

-- 20DH: the reply repeats these and adds two digits for each eight flags begun (02, a; 4-3-8: "8 bits from the head flag")
abbrev pub flags_text : Message → Kind → ℕ → ℕ → List ℕ → List ℕ
flags_text m k start count area = head_of m start count ++ digits_in (eights 0 (run_of k start count area))
