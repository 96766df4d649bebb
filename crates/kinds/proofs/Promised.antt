-- The law of specs/Laws.antt.
use Prim.Native.Nat.{◌*◌}
use native.Mathlib.Omega.{arith}
use Rattle.digits.proofs.Laid.{part_laid, laid_back, length_laid, before_laid, beyond_laid}
use Rattle.kinds.specs.Kinds.{run_of, put, place_of}
use Rattle.kinds.specs.Laws.{EveryRun}

pub run : EveryRun
unfolding run_of put
run k start count bytes area e h =
    let at = place_of k start in
    record {
      read_back = part_laid area bytes at (count * k.unit) e (omega arith);
      put_back = laid_back area bytes at (count * k.unit) e (omega arith);
      as_long = length_laid area at bytes h;
      outside_before = λ i l. before_laid area bytes at i (omega arith) l;
      outside_behind = λ i l. beyond_laid area bytes at i h l;
    }
