-- Images: a table as 32-bit words, its serialized state (MANUAL, "Images").
--
--   slots n       ==   what each word of an image of n processes after the first stands for, in order.
--   image_of t     ==   the image of a table.
--   bare_image_of t ==   its bare image, which has no passes: read, and never written.
--   read_image ws  ==   the table that an image of either form is of, or the refusal 1 to 5 with its place.
--   image_length n ==   how many words an image of n processes has; row_place, turn_place, pass_place say where they stand.
--   length_in w, slots_in w  ==  how many words an image with the first word w has, and what those after it stand for.
--   written_of t l ==   lent words l after the image of t was written into them: 6, 7, then 13, or the first words set.
--
-- Of each kind of word: its fields, written (body_of, count_of) and read (code_in .. turn_in, count_in), the other bits
-- (spare_body), the ranges (in_range, off_diagonal). Assumes nothing.
use Rattle.std.specs.Prelude.{ℕ, zero, suc, ◌+◌, ◌-◌, ◌*◌, ◌/◌, ◌%◌, ◌^◌, min, Bool, true, false, cond, ◌&&◌, ◌||◌}
use Rattle.std.specs.Prelude.{not, List, [], ◌∷◌, ◌++◌, map, eqb, leb, ltb, length, get_or, drop, Result, Ok, Err}
use Rattle.counting.specs.Ranges.{up_to}
use Rattle.counting.specs.Placing.{placed}
use Rattle.machine.specs.Refusals.{accepted, no_header, wrong_length, malformed, out_of_range}
use Rattle.machine.specs.Refusals.{level_misfit, too_few_lent, number}
use Rattle.machine.specs.Tables.{Table, row, locations, level_fits, table_refusal, Handed, handed}
use Rattle.machine.specs.declared.Row.{Row}
use Rattle.machine.specs.declared.ImageError.{ImageError}
use Rattle.machine.specs.declared.NewTable.{NewTable}

-- ---- the layout

-- a word's kind, in bits 31 to 28; in bits 27 to 24 the q of the passes of q over r, else 0; and in bits 23 to 16 its
-- number: a process, the k of turn[k], or that r, which is below 16
pub record Slot : Type 0 where
  pub kind : ℕ
  pub passer : ℕ
  pub number : ℕ

abbrev pub slot : ℕ → ℕ → Slot
slot k q = record { kind = k; passer = 0; number = q }

-- the kinds: location with act, bb and level; the three sets; turn; passes
abbrev pub STATE : ℕ
STATE = 9

abbrev pub EST : ℕ
EST = 10

abbrev pub LIS : ℕ
LIS = 11

abbrev pub AHEAD : ℕ
AHEAD = 12

abbrev pub TURN : ℕ
TURN = 13

abbrev pub PASSES : ℕ
PASSES = 14

abbrev pub pass_slot : ℕ → ℕ → Slot
pass_slot q r = record { kind = PASSES; passer = q; number = r }

-- four words for each of m processes, from process q on
unfoldable pub row_slots : ℕ → ℕ → List Slot
row_slots q zero = []
row_slots q (suc m) = slot STATE q ∷ slot EST q ∷ slot LIS q ∷ slot AHEAD q ∷ row_slots (suc q) m

-- a word for each of m turn cells, from turn[k] on
unfoldable pub turn_slots : ℕ → ℕ → List Slot
turn_slots k zero = []
turn_slots k (suc m) = slot TURN k ∷ turn_slots (suc k) m

-- a word for the passes of q over each of m processes, from process r on
unfoldable pub pass_row : ℕ → ℕ → ℕ → List Slot
pass_row q r zero = []
pass_row q r (suc m) = pass_slot q r ∷ pass_row q (suc r) m

-- n words for each of m processes, from process q on
unfoldable pub pass_slots : ℕ → ℕ → ℕ → List Slot
unfolding pass_row
pass_slots n q zero = []
pass_slots n q (suc m) = pass_row q 0 n ++ pass_slots n (suc q) m

-- the slots of a bare image, and of an image
unfoldable pub bare_slots : ℕ → List Slot
unfolding row_slots turn_slots
bare_slots n = row_slots 0 n ++ turn_slots 1 (n - 1)

unfoldable pub slots : ℕ → List Slot
unfolding bare_slots pass_slots
slots n = bare_slots n ++ pass_slots n 0 n

-- how many words the bare image of n processes has, and the image
abbrev pub bare_length : ℕ → ℕ
bare_length n = 5 * n

abbrev pub image_length : ℕ → ℕ
image_length n = bare_length n + n * n

-- where the first of the four words of process q stands
abbrev pub row_place : ℕ → ℕ
row_place q = 4 * q + 1

-- where the word of turn[k] stands in an image of n processes
abbrev pub turn_place : ℕ → ℕ → ℕ
turn_place n k = 4 * n + k

-- where the word of the passes of q over r stands in an image of n processes
abbrev pub pass_place : ℕ → ℕ → ℕ → ℕ
pass_place n q r = bare_length n + n * q + r

-- the first word: bit 31, in an image that is not bare bit 24, and the number of processes
abbrev pub bare_header_of : ℕ → ℕ
bare_header_of n = 2 ^ 31 + n

abbrev pub header_of : ℕ → ℕ
header_of n = 2 ^ 31 + 2 ^ 24 + n

-- of a header: whether passes follow, and how many processes it names
abbrev pub says_passes : ℕ → Bool
says_passes w = leb (header_of 0) w

abbrev pub size_in : ℕ → ℕ
size_in w = cond (says_passes w) (w - header_of 0) (w - bare_header_of 0)

-- whether it is a header, of either form
abbrev pub is_header : ℕ → Bool
is_header w =
    (leb (header_of 2) w && leb w (header_of 16)) || (leb (bare_header_of 2) w && leb w (bare_header_of 16))

-- how many words there are by a first word, and what those after it stand for
abbrev pub length_in : ℕ → ℕ
length_in w = cond (says_passes w) (image_length (size_in w)) (bare_length (size_in w))

abbrev pub slots_in : ℕ → List Slot
slots_in w = cond (says_passes w) (slots (size_in w)) (bare_slots (size_in w))

-- ---- the fields of a word's lower half, for each kind

-- the code of a location: its place among the eight
abbrev pub place_in : ℕ → List ℕ → ℕ
place_in x [] = 0
place_in x (v ∷ vs) = cond (eqb x v) 0 (suc (place_in x vs))

abbrev pub code_of : ℕ → ℕ
code_of l = place_in l locations

-- a word of kind STATE: code in bits 15 to 12, act in bit 9, bb in bit 8, level in bits 7 to 0
abbrev pub code_in : ℕ → ℕ
code_in b = b / 2 ^ 12 % 2 ^ 4

abbrev pub act_in : ℕ → ℕ
act_in b = b / 2 ^ 9 % 2

abbrev pub bb_in : ℕ → ℕ
bb_in b = b / 2 ^ 8 % 2

abbrev pub level_in : ℕ → ℕ
level_in b = b % 2 ^ 8

abbrev pub location_in : ℕ → ℕ
location_in b = get_or locations (code_in b) 0

-- a word of kind EST, LIS or AHEAD: the set in bits 15 to 0
abbrev pub set_in : ℕ → ℕ
set_in b = b % 2 ^ 16

-- a word of kind TURN: the process in bits 7 to 0
abbrev pub turn_in : ℕ → ℕ
turn_in b = b % 2 ^ 8

-- a word of kind PASSES: the count in bits 15 to 0
abbrev pub count_in : ℕ → ℕ
count_in b = b % 2 ^ 16

-- the lower half of a word of kind k for a row
unfoldable pub body_of : ℕ → Row → ℕ
body_of k r =
    cond (eqb k STATE) (code_of r.location * 2 ^ 12 + r.act * 2 ^ 9 + r.bb * 2 ^ 8 + r.level)
    (cond (eqb k EST) r.est
    (cond (eqb k LIS) r.lis
    (cond (eqb k AHEAD) r.ahead r.turn)))

-- the passes of q over r, the lower half of their word
abbrev pub count_of : Table → ℕ → ℕ → ℕ
count_of t q r = get_or (row t q).passes r 0

-- the bits of the lower half that no field of kind k has are 0
unfoldable pub spare_body : ℕ → ℕ → Bool
spare_body k w =
    cond (eqb k STATE) (eqb (w / 2 ^ 10 % 2 ^ 2) 0)
    (cond (eqb k TURN) (eqb (w / 2 ^ 8 % 2 ^ 8) 0) true)

-- the fields of kind k are in range for n processes; every count is
unfoldable pub in_range : ℕ → ℕ → ℕ → Bool
in_range n k w =
    cond (eqb k STATE) (ltb (code_in w) 8 && ltb (level_in w) n)
    (cond (eqb k TURN) (ltb (turn_in w) n) (cond (eqb k PASSES) true (ltb (set_in w) (2 ^ n))))

-- a process has no passes over itself
abbrev pub off_diagonal : Slot → ℕ → Bool
off_diagonal s w = not (eqb s.kind PASSES && eqb s.passer s.number) || eqb (count_in w) 0

-- ---- writing

-- the lower half of the word of a slot
abbrev pub body_in : Table → Slot → ℕ
body_in t s =
    cond (eqb s.kind PASSES) (count_of t s.passer s.number) (body_of s.kind (row t s.number))

-- the word of a slot
unfoldable pub word_in : Table → Slot → ℕ
unfolding body_of
word_in t s = s.kind * 2 ^ 28 + s.passer * 2 ^ 24 + s.number * 2 ^ 16 + body_in t s

unfoldable pub image_of : Table → List ℕ
unfolding word_in slots
image_of t = header_of (length t) ∷ map (word_in t) (slots (length t))

unfoldable pub bare_image_of : Table → List ℕ
unfolding word_in bare_slots
bare_image_of t = bare_header_of (length t) ∷ map (word_in t) (bare_slots (length t))

-- what writing leaves in lent words
pub record Written : Type 0 where
  pub refusal : ℕ
  pub words : List ℕ

unfoldable pub written_of : Table → List ℕ → Written
unfolding table_refusal image_of
written_of t l =
    cond (not (eqb (table_refusal t) accepted)) (record { refusal = table_refusal t; words = l })
    (cond (not (leb (image_length (length t)) (length l))) (record { refusal = too_few_lent; words = l })
    (record { refusal = accepted; words = placed l 0 (image_of t) }))

-- ---- reading

-- a refusal, or 0, and the place of the word that it is about
pub record Found : Type 0 where
  pub refusal : ℕ
  pub place : ℕ

-- the refusal and the place that an answer of the code has; 0 and 0 where it has none
abbrev pub found_in : {A : Type 0} → Result A ImageError → Found
found_in (Ok _) = record { refusal = accepted; place = 0 }
found_in (Err e) = record { refusal = number e.refusal; place = e.place }

-- kind, passer, number and spare bits of a word are those of its slot
abbrev pub fits_slot : Slot → ℕ → Bool
fits_slot s w =
    eqb (w / 2 ^ 28) s.kind
    && eqb (w / 2 ^ 24 % 2 ^ 4) s.passer
    && eqb (w / 2 ^ 16 % 2 ^ 8) s.number
    && spare_body s.kind w

-- 0, or the first refusal of a word at its slot
unfoldable pub slot_refusal : ℕ → Slot → ℕ → ℕ
unfolding spare_body in_range
slot_refusal n s w =
    cond (not (fits_slot s w)) malformed
    (cond (not (off_diagonal s w && in_range n s.kind w)) out_of_range
    (cond (eqb s.kind STATE && not (level_fits (location_in w) (level_in w))) level_misfit accepted))

-- the first refusal of the words at their slots, the first of which stands at place i; place 0 where there is none
unfoldable pub first_refusal : ℕ → ℕ → List Slot → List ℕ → Found
unfolding slot_refusal
first_refusal n i [] ws = record { refusal = accepted; place = 0 }
first_refusal n i (s ∷ ss) [] = record { refusal = accepted; place = 0 }
first_refusal n i (s ∷ ss) (w ∷ ws) =
    elim (eqb (slot_refusal n s w) accepted) [
      | true ↦ first_refusal n (suc i) ss ws
      | false ↦ record { refusal = slot_refusal n s w; place = i }
    ]

-- the passes of process q in an image of n processes, none over a process not below n; a bare image has no words at
-- these places, and what is past the end reads as 0
abbrev pub passes_in : ℕ → List ℕ → ℕ → List ℕ
passes_in n ws q = up_to (λ r. cond (ltb r n) (count_in (get_or ws (pass_place n q r) 0)) 0) 16

-- process q's row of an image of n processes; row 0 holds turn 0
abbrev pub row_in : ℕ → List ℕ → ℕ → Row
row_in n ws q =
    let b = get_or ws (row_place q) 0 in
    record {
      location = location_in b;
      act = act_in b;
      bb = bb_in b;
      level = level_in b;
      est = set_in (get_or ws (row_place q + 1) 0);
      lis = set_in (get_or ws (row_place q + 2) 0);
      ahead = set_in (get_or ws (row_place q + 3) 0);
      turn = cond (eqb q 0) 0 (turn_in (get_or ws (turn_place n q) 0));
      passes = passes_in n ws q;
    }

-- the rows of m processes from q on
unfoldable pub rows_in : ℕ → List ℕ → ℕ → ℕ → Table
rows_in n ws q zero = []
rows_in n ws q (suc m) = row_in n ws q ∷ rows_in n ws (suc q) m

-- what is wrong with an image: 1, then 2, then the first of 3, 4 and 5 in the order of the words
unfoldable pub image_refusal : List ℕ → Found
unfolding first_refusal slots
image_refusal ws =
    let head = get_or ws 0 0 in
    let first = first_refusal (size_in head) 1 (slots_in head) (drop 1 ws) in
    let all = length_in head in
    elim (is_header head) [
      | false ↦ record { refusal = no_header; place = 0 }
      | true ↦
          elim (eqb (length ws) all) [
            | false ↦ record { refusal = wrong_length; place = min (length ws) all }
            | true ↦ first
          ]
    ]

unfoldable pub table_in : List ℕ → Table
unfolding rows_in
table_in ws = let n = size_in (get_or ws 0 0) in rows_in n ws 0 n

-- what reading hands back
unfoldable pub read_image : List ℕ → Handed
unfolding image_refusal table_in
read_image ws =
    let f = image_refusal ws in
    elim (eqb f.refusal accepted) [
      | true ↦ handed accepted 0 (table_in ws)
      | false ↦ handed f.refusal f.place []
    ]

-- what an answer of the code hands back: a table, or a refusal with its place and no table
abbrev pub image_in : Result NewTable ImageError → Handed
image_in (Ok t) = record { refusal = accepted; place = 0; size = t.size; rows = t.rows }
image_in (Err e) = handed (number e.refusal) e.place []
