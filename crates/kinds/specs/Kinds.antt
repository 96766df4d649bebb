-- Document 01, "The areas" and "Journal", and document 02, request a: kinds of numbered things, and runs of them.
use Rattle.std.specs.Prelude.{ℕ, ◌+◌, ◌-◌, ◌*◌, ◌/◌, ◌≤◌, Bool, cond, ◌&&◌, List, take, drop, leb, eqb}
use Rattle.digits.specs.Laid.{laid}
use Rattle.kinds.specs.declared.Kind.{Kind}
use Rattle.kinds.specs.declared.Held.{Held}
use Rattle.kinds.specs.declared.Lengths.{Lengths}

-- "tag (50H points, 53H columns)"
abbrev pub points_tag : ℕ
points_tag = 0x50

abbrev pub columns_tag : ℕ
columns_tag = 0x53

-- "its own journal tag (49H, 46H)" (02, a)
abbrev pub integers_tag : ℕ
integers_tag = 0x49

abbrev pub flags_tag : ℕ
flags_tag = 0x46

-- "Points: 40·N bytes, [..] points 1 to N"; "p at least 1"
abbrev pub points_of : Held → Kind
points_of h = record { tag = points_tag; first = 1; unit = 40; held = h.points; most = h.points }

-- "Columns: 700 bytes, string columns 300 to 999"; "c 1 to 255"
abbrev pub columns_of : Kind
columns_of = record { tag = columns_tag; first = 300; unit = 1; held = 700; most = 255 }

-- "the first 100 integer numbers and 300 flags, from numbers given as settings", "four bytes an integer", "one byte a flag" (02, a); one write can
-- name 100 integers, and one flag
abbrev pub integers_of : Held → Kind
integers_of h = record { tag = integers_tag; first = h.firsts.integer; unit = 4; held = 100; most = 100 }

abbrev pub flags_of : Held → Kind
flags_of h = record { tag = flags_tag; first = h.firsts.flag; unit = 1; held = 300; most = 1 }

-- the kind of a tag, on a board that holds so much; of any other tag nothing is held
unfoldable pub kind_of : Held → ℕ → Kind
kind_of h tag =
    cond (eqb tag points_tag) (points_of h)
    (cond (eqb tag columns_tag) columns_of
    (cond (eqb tag integers_tag) (integers_of h)
    (cond (eqb tag flags_tag) (flags_of h) (record { tag = tag; first = 0; unit = 1; held = 0; most = 0 }))))

-- "N is the area's length over 40 and isn't handed over."
abbrev pub held_in : Lengths → Held
held_in l = record { points = l.points / 40; firsts = l.firsts }

-- what is asked of what is held, and the tests of the areas assure: "N from 1 to 1,500", and no setting "runs past the field's range" (02, a)
pub record Sound (h : Held) : Type 0 where
  pub some_points : 1 ≤ h.points
  pub points : h.points ≤ 1500
  pub integers : h.firsts.integer + 99 ≤ 0xFFF
  pub flags : h.firsts.flag + 299 ≤ 0xFFFF

-- each number "from start to start+count-1" is held (refusal 106)
unfoldable pub holds : Kind → ℕ → ℕ → Bool
holds k start count = leb k.first start && leb (start + count) (k.first + k.held)

-- how long a kind's area is, and where a number stands in it
abbrev pub size_of : Kind → ℕ
size_of k = k.held * k.unit

abbrev pub place_of : Kind → ℕ → ℕ
place_of k start = (start - k.first) * k.unit

-- the bytes of so many from a number on, and bytes put from a number on
unfoldable pub run_of : Kind → ℕ → ℕ → List ℕ → List ℕ
run_of k start count area = take (count * k.unit) (drop (place_of k start) area)

unfoldable pub put : Kind → ℕ → List ℕ → List ℕ → List ℕ
put k start bytes area = laid area (place_of k start) bytes
