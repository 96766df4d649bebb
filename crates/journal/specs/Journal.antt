-- Document 01, "Journal", and document 02, request a. A journal is a list of entries, oldest first; its bytes are given by `encodes`.
use Rattle.std.specs.Prelude.{ℕ, zero, suc, pred, ◌+◌, ◌-◌, ◌/◌, ◌%◌, Bool, true, false, cond, ◌&&◌, List, [], ◌∷◌, ◌++◌, length, take, drop, get_or, replicate, leb, eqb}
use Rattle.kinds.specs.declared.Kind.{Kind}
use Rattle.kinds.specs.declared.Held.{Held}
use Rattle.areas.specs.Bytes.{two_of, two_at}
use Rattle.kinds.specs.Kinds.{kind_of, holds, put}

-- "one entry: tag (50H points, 53H columns), [..] start number (2), the old bytes of what was named"; "old values as in the other entries" (02, a)
pub record Entry : Type 0 where
  pub tag : ℕ
  pub start : ℕ
  pub bytes : List ℕ

-- its bytes: "tag, a two-byte length of what follows, start number (2), the old bytes [..]; numbers high byte first"
unfoldable pub encode : Entry → List ℕ
encode e = e.tag ∷ (two_of (2 + length e.bytes) ++ (two_of e.start ++ e.bytes))

unfoldable pub encodes : List Entry → List ℕ
encodes [] = []
encodes (e ∷ es) = encode e ++ encodes es

-- "Well-formed: p at least 1, c 1 to 255, all numbers held": so many old bytes from a start number on, of one kind; at most what one write can name
unfoldable pub entry_fits : Kind → ℕ → ℕ → Bool
entry_fits k start size =
    eqb (size % k.unit) 0
    && (leb 1 (size / k.unit) && (leb (size / k.unit) k.most && holds k start (size / k.unit)))

-- how long the entry at the front of bytes is, 0 where no whole well-formed one stands there
unfoldable pub front_of : Held → List ℕ → ℕ
front_of held bytes =
    cond
    (leb 5 (length bytes)
    && (leb 2 (two_at bytes 1)
    && (leb (two_at bytes 1 + 3) (length bytes) && entry_fits (kind_of held (get_or bytes 0 0)) (two_at bytes 3) (two_at bytes 1 - 2))))
    (two_at bytes 1 + 3)
    0

-- "whole well-formed entries" (refusal 4), where so many bytes of the present entry are still to be passed
unfoldable pub whole : Held → ℕ → List ℕ → Bool
whole held zero [] = true
whole held (suc left) [] = false
whole held zero (b ∷ bytes) = cond (eqb (front_of held (b ∷ bytes)) 0) false (whole held (pred (front_of held (b ∷ bytes))) bytes)
whole held (suc left) (b ∷ bytes) = whole held left bytes

-- the entry of so many bytes at the front
unfoldable pub entry_at : ℕ → List ℕ → Entry
entry_at size bytes = record { tag = get_or bytes 0 0; start = two_at bytes 3; bytes = take (size - 5) (drop 5 bytes) }

-- the entries of a used part, oldest first, where so many bytes of the present entry are still to be passed
unfoldable pub entries_in : Held → ℕ → List ℕ → List Entry
entries_in held left [] = []
entries_in held zero (b ∷ bytes) = entry_at (front_of held (b ∷ bytes)) (b ∷ bytes) ∷ entries_in held (pred (front_of held (b ∷ bytes))) bytes
entries_in held (suc left) (b ∷ bytes) = entries_in held left bytes

-- "oldest entries are dropped, and no more than needed, until it fits" into so much room
unfoldable pub kept : ℕ → List Entry → List Entry
kept room [] = []
kept room (e ∷ es) = cond (leb (length (encodes (e ∷ es))) room) (e ∷ es) (kept room es)

-- the entries after one is added to a journal of so many bytes
unfoldable pub added : ℕ → List Entry → Entry → List Entry
added size es e = kept (size - length (encode e)) es ++ (e ∷ [])

-- the area of so many bytes: the entries, and "bytes beyond the used length are 00"
unfoldable pub area_of : ℕ → List Entry → List ℕ
area_of size es = encodes es ++ replicate (size - length (encodes es)) 0

-- the last entry, and the others
unfoldable pub last_of : Entry → List Entry → Entry
last_of e [] = e
last_of e (f ∷ es) = last_of f es

unfoldable pub others_of : Entry → List Entry → List Entry
others_of e [] = []
others_of e (f ∷ es) = e ∷ others_of f es

unfoldable pub last_entry : List Entry → Entry
last_entry [] = record { tag = 0; start = 0; bytes = [] }
last_entry (e ∷ es) = last_of e es

unfoldable pub others : List Entry → List Entry
others [] = []
others (e ∷ es) = others_of e es

-- an entry's bytes put into an area of a kind, where the entry is of that kind
unfoldable pub puts : Kind → Entry → List ℕ → List ℕ
puts k e area = cond (eqb e.tag k.tag) (put k e.start e.bytes area) area

abbrev pub entry_for : ℕ → ℕ → List ℕ → Entry
entry_for t s bs = record { tag = t; start = s; bytes = bs }
