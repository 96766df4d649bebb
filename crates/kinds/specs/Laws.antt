-- What is promised of runs of a kind. The proof is in proofs/Promised.antt.
use Rattle.std.specs.Prelude.{ℕ, ◌+◌, ◌*◌, ◌<◌, ◌≤◌, ◌≡◌, List, length, get_or}
use Rattle.kinds.specs.declared.Kind.{Kind}
use Rattle.kinds.specs.Kinds.{run_of, put, place_of}

-- a run of any kind, put and read back, within its area
pub record Run (k : Kind) (start count : ℕ) (bytes area : List ℕ) : Type 0 where
  pub read_back : run_of k start count (put k start bytes area) ≡ bytes
  pub put_back : put k start (run_of k start count area) (put k start bytes area) ≡ area
  pub as_long : length (put k start bytes area) ≡ length area
  pub outside_before : (i : ℕ) → i < place_of k start → get_or (put k start bytes area) i 0 ≡ get_or area i 0
  pub outside_behind : (i : ℕ) → place_of k start + length bytes ≤ i → get_or (put k start bytes area) i 0 ≡ get_or area i 0

-- "The areas": so it is for bytes that are so many things of the kind, and fit into the area from there on
abbrev pub EveryRun : Type 0
EveryRun =
    (k : Kind) (start count : ℕ) (bytes area : List ℕ) → length bytes ≡ count * k.unit → place_of k start + length bytes ≤ length area
    → Run k start count bytes area
