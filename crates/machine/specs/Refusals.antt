-- The refusals by number (MANUAL, "Refusals"), and answers in these numbers. 0 is an accepted answer.
--
--   number e      ==  the number of a refusal.
--   refusal_in r  ==  0, or the number of the refusal in an answer.
--   numbered r    ==  an answer with the number in the place of the refusal.
--
-- Assumes nothing.
use Rattle.std.specs.Prelude.{ℕ, Result, Ok, Err}
use Rattle.machine.specs.declared.Refusal.{Refusal}
use Rattle.machine.specs.declared.Refusal.TheVariants.{NoHeader, WrongLength, Malformed, OutOfRange, LevelMisfit}
use Rattle.machine.specs.declared.Refusal.TheVariants.{WrongSize, UnsoundRow, BadKind, NoProcess, NotAllowed}
use Rattle.machine.specs.declared.Refusal.TheVariants.{BadArgument, TooManyWords, TooFewLent, BadBytes, PassesFull}
use Rattle.machine.specs.declared.Refusal.TheVariants.{PlainFlicker, SecondWriter, BadSettings}

-- no refusal
abbrev pub accepted : ℕ
accepted = 0

-- an image: no words, or the first is no header
abbrev pub no_header : ℕ
no_header = 1

-- an image: not as many words as its first word says
abbrev pub wrong_length : ℕ
wrong_length = 2

-- an image word: its kind, its number (a process, the k of turn[k], the q or r of passes) or a spare bit is wrong
abbrev pub malformed : ℕ
malformed = 3

-- an image word: a location code, a level, a set or a turn is out of range, or a process has passes over itself
abbrev pub out_of_range : ℕ
out_of_range = 4

-- an image word: the level does not go with the location
abbrev pub level_misfit : ℕ
level_misfit = 5

-- a table: not 2 to 16 rows
abbrev pub wrong_size : ℕ
wrong_size = 6

-- a table: a row is unsound
abbrev pub unsound_row : ℕ
unsound_row = 7

-- an event word: its kind is not 1 to 6, or a spare bit is set
abbrev pub bad_kind : ℕ
bad_kind = 8

-- an event word: no such process
abbrev pub no_process : ℕ
no_process = 9

-- an event word: its kind is not allowed where the process is
abbrev pub not_allowed : ℕ
not_allowed = 10

-- an event word: its argument is not one of those listed
abbrev pub bad_argument : ℕ
bad_argument = 11

-- a run: over 8,192 words
abbrev pub too_many_words : ℕ
too_many_words = 12

-- memory for an answer: too little is lent
abbrev pub too_few_lent : ℕ
too_few_lent = 13

-- bytes in: no multiple of 4, or above 34,112
abbrev pub bad_bytes : ℕ
bad_bytes = 14

-- an event word: it would carry a count of passes past 65,535
abbrev pub passes_full : ℕ
passes_full = 15

-- an event word: FLICKER of a cell that the settings say is plain
abbrev pub plain_flicker : ℕ
plain_flicker = 16

-- an event word: GO from 23 to 24, where the settings leave a turn cell one writer, and another process is it
abbrev pub second_writer : ℕ
second_writer = 17

-- settings: a value that is none of those listed
abbrev pub bad_settings : ℕ
bad_settings = 18

-- ---- the refusals of the code

abbrev pub number : Refusal → ℕ
number NoHeader = no_header
number WrongLength = wrong_length
number Malformed = malformed
number OutOfRange = out_of_range
number LevelMisfit = level_misfit
number WrongSize = wrong_size
number UnsoundRow = unsound_row
number BadKind = bad_kind
number NoProcess = no_process
number NotAllowed = not_allowed
number BadArgument = bad_argument
number TooManyWords = too_many_words
number TooFewLent = too_few_lent
number BadBytes = bad_bytes
number PassesFull = passes_full
number PlainFlicker = plain_flicker
number SecondWriter = second_writer
number BadSettings = bad_settings

abbrev pub refusal_in : {A : Type 0} → Result A Refusal → ℕ
refusal_in (Ok _) = accepted
refusal_in (Err e) = number e

abbrev pub numbered : {A : Type 0} → Result A Refusal → Result A ℕ
numbered (Ok x) = Ok x
numbered (Err e) = Err (number e)
