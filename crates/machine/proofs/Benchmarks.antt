-- Benchmarks of the definitions (`starred`, `cancels`; MANUAL, "Examples", has most of them), and examples with three
-- processes that tell near errors apart: lists, each evaluated by one theorem. The expected tables of three are those
-- of a separate model. Assumes nothing.
use Prim.Native.Nat.{ℕ}
use mathlib.Core.Path.{◌≡◌, refl}
use mathlib.Core.Bool.{Bool, true, false, ◌&&◌}
use mathlib.Core.List.{List, [], ◌∷◌, ◌++◌}
use lib.Dec.{eqb}
use lib.ListN.{take, replicate}
use Rattle.counting.specs.Sums.{sum, count}
use Rattle.counting.specs.Sets.{has, set_of, size, without, others}
use Rattle.counting.specs.Placing.{placed}
use Rattle.counting.specs.Ranges.{up_to, some}
use Rattle.machine.specs.Tables.{Table, fresh_table, sound_from, table_refusal, competitors}
use Rattle.machine.specs.Steps
use Rattle.machine.specs.Census.{below, held, critical, waiting}
use Rattle.machine.specs.Settings.{weakest, forbidden_by, refusal_under}
use Rattle.machine.specs.Runs.{Outcome, run_from, run_of}
use Rattle.machine.specs.Images
use Rattle.machine.specs.Bytes.{words_in, bytes_of, bytes_limit}
use Rattle.machine.specs.Inputs.{Input, words_hold, input_of}
use Rattle.machine.specs.Calls.{Called, ran_call, call_for, call_of}
use Rattle.machine.specs.Text.{digits, spaced, run_lines, text_of, printed}
use Rattle.machine.specs.Exports.{printed_in}

-- ---- evaluation

-- a run, with all that it computes with
unfoldable pub evaluated : Table → List ℕ → Outcome
unfolding Steps.turned Steps.forgets Steps.flickered Steps.entered Steps.started Steps.looked Steps.reconsidered
    Steps.pushed Steps.go_row Steps.gone Steps.moved Steps.allowed Steps.argument_fits Steps.word_refusal Steps.refusal_of
    Steps.after_word Steps.event_of sound_from table_refusal competitors sum count has set_of size without others some
    forbidden_by refusal_under run_from run_of
evaluated t ws = run_of weakest t ws

-- the image of a table, likewise
pictured : Table → List ℕ
unfolding Images.row_slots Images.turn_slots Images.slots Images.body_of Images.word_in Images.image_of
pictured t = Images.image_of t

same : List ℕ → List ℕ → Bool
same [] [] = true
same [] (b ∷ y) = false
same (a ∷ x) [] = false
same (a ∷ x) (b ∷ y) = eqb a b && same x y

-- ---- the starred benchmarks

-- an image, event words after it, and what comes of them: the refusal of the image with its place, or how many words
-- are taken, the refusal of the next one, and the image of the table afterwards
pub record Benchmark : Type 0 where
  image : List ℕ
  events : List ℕ
  image_refusal : ℕ
  place : ℕ
  taken : ℕ
  refusal : ℕ
  last : List ℕ

agrees : Benchmark → Bool
unfolding evaluated pictured same Images.row_slots Images.turn_slots Images.slots Images.spare_body Images.in_range
    Images.slot_refusal Images.first_refusal Images.rows_in Images.image_refusal Images.table_in
agrees b =
    let f = Images.image_refusal b.image in
    let o = evaluated (Images.table_in b.image) b.events in
    eqb f.refusal b.image_refusal && eqb f.place b.place
    && elim (eqb f.refusal 0) [
      | false ↦ true
      | true ↦ eqb o.tally.words b.taken && eqb o.refusal b.refusal && same (pictured o.table) b.last
    ]

pub all_pass : List Benchmark → Bool
unfolding agrees
all_pass [] = true
all_pass (b ∷ bs) = agrees b && all_pass bs

-- the words of two processes, with these as process 0's first three and else as in the fresh image
cells : ℕ → ℕ → ℕ → List ℕ
cells state est lis =
    state ∷ est ∷ lis ∷ 0xC0000000 ∷ 0x90010000 ∷ 0xA0010000 ∷ 0xB0010000 ∷ 0xC0010000 ∷ 0xD0010000 ∷ []

-- the words of their passes, where there are none
uncounted : List ℕ
uncounted = 0xE0000000 ∷ 0xE0010000 ∷ 0xE1000000 ∷ 0xE1010000 ∷ []

-- the bare image of these cells, and the image, which is the one that is written
bare_two : ℕ → ℕ → ℕ → List ℕ
unfolding cells
bare_two state est lis = 0x80000002 ∷ cells state est lis

pub two : ℕ → ℕ → ℕ → List ℕ
unfolding cells uncounted
two state est lis = 0x81000002 ∷ cells state est lis ++ uncounted

-- the fresh image of two processes; the examples start from the bare one
fresh_two : List ℕ
unfolding two
fresh_two = two 0x90000000 0xA0000000 0xB0000000

start : List ℕ
unfolding bare_two
start = bare_two 0x90000000 0xA0000000 0xB0000000

-- event words from it
from_fresh : List ℕ → ℕ → ℕ → List ℕ → Benchmark
unfolding start
from_fresh ws taken refusal last =
    record { image = start; events = ws; image_refusal = 0; place = 0; taken = taken; refusal = refusal; last = last }

-- an image that is refused
refused_image : List ℕ → ℕ → ℕ → Benchmark
refused_image ws why at =
    record { image = ws; events = []; image_refusal = why; place = at; taken = 0; refusal = 0; last = [] }

three_words : List ℕ
three_words = 0x20000000 ∷ 0x40000000 ∷ 0x40000000 ∷ []

pub starred : List Benchmark
unfolding fresh_two two start from_fresh refused_image three_words
starred =
    -- no words
    from_fresh [] 0 0 fresh_two
    -- the seven words
    ∷ from_fresh (three_words ++ (0x50000001 ∷ 0x40000000 ∷ 0x40000000 ∷ 0x40000000 ∷ [])) 7 0
    (two 0x90006200 0xA0000000 0xB0000000)
    ∷ from_fresh (0x40000000 ∷ []) 0 10 fresh_two
    ∷ from_fresh (0x00000000 ∷ []) 0 8 fresh_two
    ∷ from_fresh (0x20020000 ∷ []) 0 9 fresh_two
    ∷ from_fresh (0x20000001 ∷ []) 0 11 fresh_two
    -- act of 0 is 1, still at 20; then an argument that no flag has
    ∷ from_fresh (0x20000000 ∷ 0x30000001 ∷ []) 2 0 (two 0x90001200 0xA0000000 0xB0000000)
    ∷ from_fresh (0x20000000 ∷ 0x30000001 ∷ 0x30000002 ∷ []) 2 11 (two 0x90001200 0xA0000000 0xB0000000)
    -- at 22 with 1 to look at
    ∷ from_fresh (three_words ++ (0x50000000 ∷ [])) 3 11 (two 0x90003201 0xA0000002 0xB0000002)
    ∷ from_fresh (three_words ++ (0x40000000 ∷ [])) 3 10 (two 0x90003201 0xA0000002 0xB0000002)
    -- images
    ∷ refused_image (take 9 start) 2 9
    ∷ refused_image (bare_two 0x90003000 0xA0000000 0xB0000000) 5 1
    ∷ []

pub starred_pass : all_pass starred ≡ true
unfolding all_pass starred
starred_pass = refl

-- ---- CANCEL

-- process 0 at 40 by a CANCEL, its act in `state`; process 1 at 22, after it has looked at 0 with this est
watched : ℕ → ℕ → List ℕ
unfolding uncounted
watched state est =
    0x81000002 ∷ state ∷ 0xA0000000 ∷ 0xB0000000 ∷ 0xC0000000 ∷ 0x90013201 ∷ est ∷ 0xB0010000 ∷ 0xC0010000 ∷
    0xD0010000 ∷ uncounted

-- process 1 comes, enters and looks at 0
watching : List ℕ
watching = 0x20010000 ∷ 0x40010000 ∷ 0x40010000 ∷ 0x50010000 ∷ []

pub cancels : List Benchmark
unfolding fresh_two two from_fresh watched watching
cancels =
    -- at 40 with act 0; then process 1 does not see 0
    from_fresh (0x20000000 ∷ 0x60000000 ∷ []) 2 0 (two 0x90007000 0xA0000000 0xB0000000)
    ∷ from_fresh (0x20000000 ∷ 0x60000000 ∷ watching) 6 0 (watched 0x90007000 0xA0010000)
    -- at 40 with act 1, as a FLICKER left it; then process 1 keeps 0 in est
    ∷ from_fresh (0x20000000 ∷ 0x30000001 ∷ 0x60000000 ∷ []) 3 0 (two 0x90007200 0xA0000000 0xB0000000)
    ∷ from_fresh (0x20000000 ∷ 0x30000001 ∷ 0x60000000 ∷ watching) 7 0 (watched 0x90007200 0xA0010001)
    -- it flickers at 40 and GOes to 10
    ∷ from_fresh (0x20000000 ∷ 0x60000000 ∷ 0x30000001 ∷ []) 3 0 (two 0x90007200 0xA0000000 0xB0000000)
    ∷ from_fresh (0x20000000 ∷ 0x60000000 ∷ 0x30000001 ∷ 0x40000000 ∷ []) 4 0 fresh_two
    -- elsewhere than at 20, also where it would have a wrong argument: at 10, at 21, at 40
    ∷ from_fresh (0x60000000 ∷ []) 0 10 fresh_two
    ∷ from_fresh (0x60000001 ∷ []) 0 10 fresh_two
    ∷ from_fresh (0x20000000 ∷ 0x40000000 ∷ 0x60000000 ∷ []) 2 10 (two 0x90002201 0xA0000002 0xB0000000)
    ∷ from_fresh (0x20000000 ∷ 0x60000000 ∷ 0x60000000 ∷ []) 2 10 (two 0x90007000 0xA0000000 0xB0000000)
    -- another argument; the first number that is no kind
    ∷ from_fresh (0x20000000 ∷ 0x60000001 ∷ []) 1 11 (two 0x90001000 0xA0000000 0xB0000000)
    ∷ from_fresh (0x70000000 ∷ []) 0 8 fresh_two
    ∷ []

pub cancels_pass : all_pass cancels ≡ true
unfolding all_pass cancels
cancels_pass = refl

-- it is no event of a tally, but a word
pub cancel_is_quiet :
    (run_of weakest (fresh_table 2) (0x20000000 ∷ 0x60000000 ∷ [])).tally ≡ record { words = 2; comes = 1; arrivals = 0 }
unfolding evaluated
cancel_is_quiet = refl

-- ---- three processes

-- words that are all taken from the fresh table of three, the image of the table that they lead to, and its census
pub record Example : Type 0 where
  words : List ℕ
  last : List ℕ
  belows : List ℕ
  helds : List ℕ
  criticals : ℕ
  waitings : ℕ

holds : Example → Bool
unfolding evaluated pictured same up_to
holds e =
    let o = evaluated (fresh_table 3) e.words in
    let t = o.table in
    eqb o.refusal 0 && same (pictured t) e.last
    && same (up_to (λ k. below k t) 4) e.belows && same (up_to (λ k. held k t) 4) e.helds
    && eqb (critical t) e.criticals && eqb (waiting t) e.waitings

pub all_hold : List Example → Bool
unfolding holds
all_hold [] = true
all_hold (e ∷ es) = holds e && all_hold es

-- one process at 40 while another is at 30
overlap : Example
overlap =
    record {
      words =
          0x20010000 ∷ 0x30010000 ∷ 0x40010000 ∷ 0x40010000 ∷ 0x50010000 ∷ 0x20000000 ∷ 0x40000000 ∷
          0x40000000 ∷ 0x50000002 ∷ 0x50010002 ∷ 0x20020000 ∷ 0x50000001 ∷ 0x30020000 ∷ 0x40020000 ∷
          0x40020000 ∷ 0x50020001 ∷ 0x40010000 ∷ 0x40010000 ∷ 0x40010000 ∷ 0x50020000 ∷ 0x40010000 ∷
          0x40000000 ∷ 0x40020000 ∷ 0x40020000 ∷ 0x30010000 ∷ 0x30020001 ∷ 0x40000000 ∷ 0x30020000 ∷
          0x40000000 ∷ 0x30020000 ∷ 0x30020002 ∷ 0x40020000 ∷ 0x30010000 ∷ 0x50000001 ∷ 0x40000000 ∷
          0x40000000 ∷ 0x30010001 ∷ 0x40020000 ∷ 0x40000000 ∷ [];
      last =
          0x81000003 ∷ 0x90006200 ∷ 0xA0000000 ∷ 0xB0000000 ∷ 0xC0000000 ∷ 0x90017200 ∷ 0xA0010000 ∷
          0xB0010000 ∷ 0xC0010000 ∷ 0x90023302 ∷ 0xA0020003 ∷ 0xB0020003 ∷ 0xC0020001 ∷ 0xD0010000 ∷
          0xD0020002 ∷ 0xE0000000 ∷ 0xE0010000 ∷ 0xE0020000 ∷ 0xE1000000 ∷ 0xE1010000 ∷ 0xE1020000 ∷
          0xE2000001 ∷ 0xE2010000 ∷ 0xE2020000 ∷ [];
      belows = 0 ∷ 1 ∷ 1 ∷ 2 ∷ [];
      helds = 0 ∷ 1 ∷ 2 ∷ 2 ∷ [];
      criticals = 1;
      waitings = 1;
    }

-- a push by the process of its own level, est looked through again, a scan that ends with a lower level
pushing : Example
pushing =
    record {
      words =
          0x20010000 ∷ 0x20020000 ∷ 0x30020001 ∷ 0x40010000 ∷ 0x30020000 ∷ 0x40010000 ∷ 0x50010000 ∷
          0x50010002 ∷ 0x40010000 ∷ 0x40010000 ∷ 0x20000000 ∷ 0x40020000 ∷ 0x30000001 ∷ 0x40020000 ∷
          0x50020001 ∷ 0x40010000 ∷ 0x50020000 ∷ 0x40020000 ∷ 0x40000000 ∷ 0x40020000 ∷ 0x40010000 ∷
          0x30020000 ∷ 0x30010000 ∷ 0x40020000 ∷ 0x40010000 ∷ 0x40000000 ∷ 0x40020000 ∷ 0x20010000 ∷
          0x50000001 ∷ 0x50000002 ∷ 0x40010000 ∷ 0x40010000 ∷ 0x50010002 ∷ 0x50010000 ∷ 0x40010000 ∷
          0x40010000 ∷ 0x40010000 ∷ 0x50020001 ∷ 0x40010000 ∷ 0x50010000 ∷ 0x50010002 ∷ 0x50020000 ∷
          0x40020000 ∷ 0x40020000 ∷ 0x40020000 ∷ 0x50020001 ∷ 0x40000000 ∷ 0x50020000 ∷ 0x40010000 ∷
          0x40000000 ∷ 0x40000000 ∷ 0x40020000 ∷ 0x50000002 ∷ 0x40020000 ∷ 0x40010000 ∷ [];
      last =
          0x81000003 ∷ 0x90003201 ∷ 0xA0000004 ∷ 0xB0000000 ∷ 0xC0000004 ∷ 0x90012302 ∷ 0xA0010005 ∷
          0xB0010000 ∷ 0xC0010005 ∷ 0x90025201 ∷ 0xA0020003 ∷ 0xB0020000 ∷ 0xC0020001 ∷ 0xD0010000 ∷
          0xD0020001 ∷ 0xE0000000 ∷ 0xE0010000 ∷ 0xE0020001 ∷ 0xE1000001 ∷ 0xE1010000 ∷ 0xE1020001 ∷
          0xE2000000 ∷ 0xE2010000 ∷ 0xE2020000 ∷ [];
      belows = 0 ∷ 0 ∷ 2 ∷ 3 ∷ [];
      helds = 0 ∷ 0 ∷ 2 ∷ 3 ∷ [];
      criticals = 0;
      waitings = 3;
    }

-- turn cells that flicker, a level lowered by one, a scan that skips
waiting_turn : Example
waiting_turn =
    record {
      words =
          0x20020000 ∷ 0x40020000 ∷ 0x40020000 ∷ 0x20000000 ∷ 0x50020000 ∷ 0x30000001 ∷ 0x50020001 ∷
          0x30000000 ∷ 0x40000000 ∷ 0x40000000 ∷ 0x50000001 ∷ 0x50000002 ∷ 0x20010000 ∷ 0x40000000 ∷
          0x40020000 ∷ 0x40020000 ∷ 0x40010000 ∷ 0x40010000 ∷ 0x40020000 ∷ 0x40020000 ∷ 0x40000000 ∷
          0x40000000 ∷ 0x50000002 ∷ 0x40000000 ∷ 0x30020001 ∷ 0x40000000 ∷ 0x30000002 ∷ 0x30000001 ∷
          0x50010000 ∷ 0x40020000 ∷ 0x30000002 ∷ 0x50010002 ∷ 0x40010000 ∷ 0x30000002 ∷ 0x30000001 ∷
          0x40010000 ∷ 0x30000000 ∷ 0x30000000 ∷ 0x30000002 ∷ 0x20020000 ∷ 0x40010000 ∷ 0x40000000 ∷
          0x50010000 ∷ 0x40000000 ∷ 0x30020000 ∷ 0x30020000 ∷ 0x30020001 ∷ 0x40010000 ∷ 0x40010000 ∷
          0x30010001 ∷ 0x40010000 ∷ 0x50000001 ∷ 0x40010000 ∷ 0x50010000 ∷ 0x40020000 ∷ 0x50000002 ∷
          0x50010002 ∷ 0x40000000 ∷ 0x40010000 ∷ 0x40000000 ∷ 0x40010000 ∷ [];
      last =
          0x81000003 ∷ 0x90002200 ∷ 0xA0000006 ∷ 0xB0000000 ∷ 0xC0000002 ∷ 0x90012301 ∷ 0xA0010005 ∷
          0xB0010000 ∷ 0xC0010001 ∷ 0x90022202 ∷ 0xA0020003 ∷ 0xB0020000 ∷ 0xC0020003 ∷ 0xD0010001 ∷
          0xD0020000 ∷ 0xE0000000 ∷ 0xE0010000 ∷ 0xE0020000 ∷ 0xE1000001 ∷ 0xE1010000 ∷ 0xE1020000 ∷
          0xE2000001 ∷ 0xE2010001 ∷ 0xE2020000 ∷ [];
      belows = 0 ∷ 1 ∷ 2 ∷ 3 ∷ [];
      helds = 0 ∷ 1 ∷ 2 ∷ 3 ∷ [];
      criticals = 0;
      waitings = 3;
    }

-- a process at 24 with nobody ahead of it, one at 21, one that flickers at 20
nobody_ahead : Example
nobody_ahead =
    record {
      words =
          0x20000000 ∷ 0x40000000 ∷ 0x20010000 ∷ 0x40010000 ∷ 0x20020000 ∷ 0x30020001 ∷ 0x40000000 ∷
          0x50000001 ∷ 0x50000002 ∷ 0x40000000 ∷ 0x40000000 ∷ [];
      last =
          0x81000003 ∷ 0x90005202 ∷ 0xA0000006 ∷ 0xB0000000 ∷ 0xC0000000 ∷ 0x90012202 ∷ 0xA0010005 ∷
          0xB0010000 ∷ 0xC0010001 ∷ 0x90021200 ∷ 0xA0020000 ∷ 0xB0020000 ∷ 0xC0020000 ∷ 0xD0010000 ∷
          0xD0020000 ∷ 0xE0000000 ∷ 0xE0010000 ∷ 0xE0020000 ∷ 0xE1000001 ∷ 0xE1010000 ∷ 0xE1020000 ∷
          0xE2000000 ∷ 0xE2010000 ∷ 0xE2020000 ∷ [];
      belows = 0 ∷ 0 ∷ 0 ∷ 2 ∷ [];
      helds = 0 ∷ 0 ∷ 1 ∷ 2 ∷ [];
      criticals = 0;
      waitings = 2;
    }

pub examples : List Example
unfolding nobody_ahead overlap pushing waiting_turn
examples = nobody_ahead ∷ overlap ∷ pushing ∷ waiting_turn ∷ []

pub examples_hold : all_hold examples ≡ true
unfolding all_hold examples
examples_hold = refl

-- ---- the first example of MANUAL as bytes: its text, and the call from C with two lent bytes too many

pub example_input : List ℕ
unfolding start three_words bytes_of
example_input = bytes_of (start ++ three_words ++ (0x50000001 ∷ 0x40000000 ∷ 0x40000000 ∷ 0x40000000 ∷ []))

pub example_text : List ℕ
example_text =
    -- posts 2
    112 ∷ 111 ∷ 115 ∷ 116 ∷ 115 ∷ 32 ∷ 50 ∷ 10 ∷
    -- 0 0 10 20 0 -
    48 ∷ 32 ∷ 48 ∷ 32 ∷ 49 ∷ 48 ∷ 32 ∷ 50 ∷ 48 ∷ 32 ∷ 48 ∷ 32 ∷ 45 ∷ 10 ∷
    -- 1 0 20 21 0 wa0
    49 ∷ 32 ∷ 48 ∷ 32 ∷ 50 ∷ 48 ∷ 32 ∷ 50 ∷ 49 ∷ 32 ∷ 48 ∷ 32 ∷ 119 ∷ 97 ∷ 48 ∷ 10 ∷
    -- 2 0 21 22 0 -
    50 ∷ 32 ∷ 48 ∷ 32 ∷ 50 ∷ 49 ∷ 32 ∷ 50 ∷ 50 ∷ 32 ∷ 48 ∷ 32 ∷ 45 ∷ 10 ∷
    -- 3 0 22 22 0 ra1
    51 ∷ 32 ∷ 48 ∷ 32 ∷ 50 ∷ 50 ∷ 32 ∷ 50 ∷ 50 ∷ 32 ∷ 48 ∷ 32 ∷ 114 ∷ 97 ∷ 49 ∷ 10 ∷
    -- 4 0 22 23 0 -
    52 ∷ 32 ∷ 48 ∷ 32 ∷ 50 ∷ 50 ∷ 32 ∷ 50 ∷ 51 ∷ 32 ∷ 48 ∷ 32 ∷ 45 ∷ 10 ∷
    -- 5 0 23 21 0 -
    53 ∷ 32 ∷ 48 ∷ 32 ∷ 50 ∷ 51 ∷ 32 ∷ 50 ∷ 49 ∷ 32 ∷ 48 ∷ 32 ∷ 45 ∷ 10 ∷
    -- 6 0 21 30 1 -
    54 ∷ 32 ∷ 48 ∷ 32 ∷ 50 ∷ 49 ∷ 32 ∷ 51 ∷ 48 ∷ 32 ∷ 49 ∷ 32 ∷ 45 ∷ 10 ∷
    -- done 7
    100 ∷ 111 ∷ 110 ∷ 101 ∷ 32 ∷ 55 ∷ 10 ∷ []

pub example_printed : printed example_input ≡ example_text
unfolding example_input example_text evaluated agrees printed digits spaced run_lines text_of input_of words_hold words_in
example_printed = refl

-- a process that gives up, with its text
pub cancel_input : List ℕ
unfolding start bytes_of
cancel_input = bytes_of (start ++ (0x20000000 ∷ 0x30000001 ∷ 0x60000000 ∷ 0x30000000 ∷ 0x40000000 ∷ []))

pub cancel_text : List ℕ
cancel_text =
    -- posts 2
    112 ∷ 111 ∷ 115 ∷ 116 ∷ 115 ∷ 32 ∷ 50 ∷ 10 ∷
    -- 0 0 10 20 0 -
    48 ∷ 32 ∷ 48 ∷ 32 ∷ 49 ∷ 48 ∷ 32 ∷ 50 ∷ 48 ∷ 32 ∷ 48 ∷ 32 ∷ 45 ∷ 10 ∷
    -- 1 0 20 20 0 wa0
    49 ∷ 32 ∷ 48 ∷ 32 ∷ 50 ∷ 48 ∷ 32 ∷ 50 ∷ 48 ∷ 32 ∷ 48 ∷ 32 ∷ 119 ∷ 97 ∷ 48 ∷ 10 ∷
    -- 2 0 20 40 0 -
    50 ∷ 32 ∷ 48 ∷ 32 ∷ 50 ∷ 48 ∷ 32 ∷ 52 ∷ 48 ∷ 32 ∷ 48 ∷ 32 ∷ 45 ∷ 10 ∷
    -- 3 0 40 40 0 wa0
    51 ∷ 32 ∷ 48 ∷ 32 ∷ 52 ∷ 48 ∷ 32 ∷ 52 ∷ 48 ∷ 32 ∷ 48 ∷ 32 ∷ 119 ∷ 97 ∷ 48 ∷ 10 ∷
    -- 4 0 40 10 0 wa0
    52 ∷ 32 ∷ 48 ∷ 32 ∷ 52 ∷ 48 ∷ 32 ∷ 49 ∷ 48 ∷ 32 ∷ 48 ∷ 32 ∷ 119 ∷ 97 ∷ 48 ∷ 10 ∷
    -- done 5
    100 ∷ 111 ∷ 110 ∷ 101 ∷ 32 ∷ 53 ∷ 10 ∷ []

pub cancel_printed : printed cancel_input ≡ cancel_text
unfolding cancel_input cancel_text evaluated agrees printed digits spaced run_lines text_of input_of words_hold words_in
cancel_printed = refl

-- the first example in 117 lent bytes, as many as it has; in one more; in one fewer
pub printed_examples :
    (printed_in example_input (replicate 117 255) ≡ record { number = 117; lent = example_text })
    × (printed_in example_input (replicate 118 255) ≡ record { number = 117; lent = example_text ++ (255 ∷ []) })
    × (printed_in example_input (replicate 116 255) ≡ record { number = 117; lent = replicate 116 255 })
unfolding example_input example_text evaluated agrees printed digits spaced run_lines text_of input_of words_hold words_in
    placed printed_in
printed_examples = (refl, refl, refl)

pub example_call : Called
unfolding example_input evaluated agrees call_of call_for ran_call placed input_of words_hold words_in
example_call = call_of weakest example_input (replicate 58 255)

pub example_called :
    (example_call.number ≡ 1792)
    × (example_call.lent ≡ bytes_of (two 0x90006200 0xA0000000 0xB0000000) ++ (255 ∷ 255 ∷ []))
unfolding example_call evaluated pictured agrees call_of call_for ran_call placed input_of words_hold words_in bytes_of two
example_called = (refl, refl)

-- the most bytes of an input, as MANUAL has the number
pub longest_input : bytes_limit ≡ 34112
longest_input = refl

-- an input of no bytes has a bad image, and one byte is no word
pub short_inputs : (input_of [] ≡ Input.BadImage 0 1) × (input_of (128 ∷ []) ≡ Input.BadBytes)
unfolding input_of words_hold words_in
short_inputs = (refl, refl)
