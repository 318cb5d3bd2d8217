-- Plant files written, case by case (document 02, Note 1).
--   lent six n us       the words of an action: its six numbers, n, the numbers us of its allocations; what is left of the 19 words is the largest number,
--                       which no field of an allocation may be
--   plant_words          document 01's plant as words;  two_bytes, four_bytes, five_bytes: files byte by byte, of two_words and of four_words once and five times
--   WriteCase           words, a buffer, and what the writer answers and leaves;  written, unwritten: a case that is accepted, refused
--   write_table          its cases, by what they are about
--   HeldCase            a plant file and its actions;  held_table: its cases
--   AllWritten, AllHeld each of a list of cases is so
use Rattle.std.specs.Prelude.{◌≡◌, List, [], ◌∷◌, ◌++◌, ℕ, ◌-◌, length, take}
use Rattle.base_rulings.specs.declared.Ruling.{Ruling}
use Rattle.base_rulings.specs.declared.Ruling.TheVariants.{Accepted}
use Rattle.base_rulings.specs.Answer.{refuse, refused}
use Rattle.write_plant.specs.Written.{ActionFields, joined, actions_in}
use Rattle.write_plant.specs.Lent.{write_ruling, written_length, written_into}
use Rattle.theorem_demands.specs.ProvingTable.{plant}
use Rattle.theorem_demands.specs.FurtherTable.{times}

abbrev pub lent : List ℕ → ℕ → List ℕ → List ℕ
lent six n us = six ++ (n ∷ us) ++ times (12 - length us) 4294967295

abbrev a0 : List ℕ
a0 = lent (1 ∷ 0 ∷ 2 ∷ 1 ∷ 10 ∷ 20 ∷ []) 1 (0 ∷ 0 ∷ 10 ∷ [])

abbrev pub plant_words : List ℕ
plant_words = a0 ++ lent (2 ∷ 0 ∷ 4 ∷ 2 ∷ 5 ∷ 5 ∷ []) 0 [] ++ lent (8 ∷ 0 ∷ 0 ∷ 0 ∷ 1 ∷ 1 ∷ []) 0 []

-- ---- what is written

pub record WriteCase : Type 0 where
  pub words : List ℕ
  pub buffer : List ℕ
  pub ruling : Ruling
  pub size : ℕ
  pub left : List ℕ

abbrev pub AllWritten : List WriteCase → Type 0
AllWritten [] = Unit {0}
AllWritten (c ∷ cs) =
    ((write_ruling c.words (length c.buffer) ≡ c.ruling)
    × (written_length c.words (length c.buffer) ≡ c.size)
    × (written_into c.words c.buffer ≡ c.left))
    × AllWritten cs

-- into a buffer with `more` bytes left over
abbrev written : List ℕ → ℕ → List ℕ → WriteCase
written w more file =
    record { words = w; buffer = times (length file) 0xAA ++ times more 0xAA; ruling = Accepted; size = length file; left = file ++ times more 0xAA }

abbrev unwritten : List ℕ → ℕ → Ruling → WriteCase
unwritten w room r = record { words = w; buffer = times room 0xAA; ruling = r; size = 0; left = times room 0xAA }

-- two actions, the first with an allocation, byte by byte: numbers low byte first, the spare bytes, the index, the trailer
abbrev two_words : List ℕ
two_words = lent (16909060 ∷ 0 ∷ 0 ∷ 2147483648 ∷ 258 ∷ 66051 ∷ []) 1 (15 ∷ 1000000 ∷ 1 ∷ []) ++ lent (0 ∷ 7 ∷ 8 ∷ 0 ∷ 1 ∷ 1 ∷ []) 0 []

abbrev two_bytes : List ℕ
two_bytes =
    4 ∷ 3 ∷ 2 ∷ 1 ∷ 0 ∷ 0 ∷ 0 ∷ 0 ∷ 0 ∷ 0 ∷ 0 ∷ 0 ∷ 0 ∷ 0 ∷ 0 ∷ 128 ∷ 2 ∷ 1 ∷ 0 ∷ 0 ∷ 3 ∷ 2 ∷ 1 ∷ 0 ∷ 1 ∷ 0 ∷ 0 ∷ 0
    ∷ 15 ∷ 0 ∷ 0 ∷ 0 ∷ 64 ∷ 66 ∷ 15 ∷ 0 ∷ 1 ∷ 0 ∷ 0 ∷ 0
    ∷ 0 ∷ 0 ∷ 0 ∷ 0 ∷ 7 ∷ 0 ∷ 0 ∷ 0 ∷ 8 ∷ 0 ∷ 0 ∷ 0 ∷ 0 ∷ 0 ∷ 0 ∷ 0 ∷ 1 ∷ 0 ∷ 0 ∷ 0 ∷ 1 ∷ 0 ∷ 0 ∷ 0 ∷ 0 ∷ 0 ∷ 0 ∷ 0
    ∷ 0 ∷ 0 ∷ 0 ∷ 0 ∷ 40 ∷ 0 ∷ 0 ∷ 0 ∷ 68 ∷ 0 ∷ 0 ∷ 0 ∷ 2 ∷ 0 ∷ 0 ∷ 0 ∷ 80 ∷ 76 ∷ 78 ∷ 84 ∷ []

-- one action with four allocations, and its record
abbrev four_words : List ℕ
four_words = lent (0 ∷ 0 ∷ 0 ∷ 0 ∷ 1 ∷ 1 ∷ []) 4 (1 ∷ 2 ∷ 3 ∷ 4 ∷ 5 ∷ 6 ∷ 7 ∷ 8 ∷ 9 ∷ 10 ∷ 11 ∷ 12 ∷ [])

abbrev four_record : List ℕ
four_record =
    times 16 0 ++ (1 ∷ 0 ∷ 0 ∷ 0 ∷ 1 ∷ 0 ∷ 0 ∷ 0 ∷ 4 ∷ 0 ∷ 0 ∷ 0
    ∷ 1 ∷ 0 ∷ 0 ∷ 0 ∷ 2 ∷ 0 ∷ 0 ∷ 0 ∷ 3 ∷ 0 ∷ 0 ∷ 0 ∷ 4 ∷ 0 ∷ 0 ∷ 0 ∷ 5 ∷ 0 ∷ 0 ∷ 0 ∷ 6 ∷ 0 ∷ 0 ∷ 0
    ∷ 7 ∷ 0 ∷ 0 ∷ 0 ∷ 8 ∷ 0 ∷ 0 ∷ 0 ∷ 9 ∷ 0 ∷ 0 ∷ 0 ∷ 10 ∷ 0 ∷ 0 ∷ 0 ∷ 11 ∷ 0 ∷ 0 ∷ 0 ∷ 12 ∷ 0 ∷ 0 ∷ 0 ∷ [])

abbrev four_bytes : List ℕ
four_bytes = four_record ++ (0 ∷ 0 ∷ 0 ∷ 0 ∷ 76 ∷ 0 ∷ 0 ∷ 0 ∷ 1 ∷ 0 ∷ 0 ∷ 0 ∷ 80 ∷ 76 ∷ 78 ∷ 84 ∷ [])

-- five of them: the last record starts at 304, and the index at 380
abbrev five_bytes : List ℕ
five_bytes =
    joined (times 5 four_record)
    ++ (0 ∷ 0 ∷ 0 ∷ 0 ∷ 76 ∷ 0 ∷ 0 ∷ 0 ∷ 152 ∷ 0 ∷ 0 ∷ 0 ∷ 228 ∷ 0 ∷ 0 ∷ 0 ∷ 48 ∷ 1 ∷ 0 ∷ 0
    ∷ 124 ∷ 1 ∷ 0 ∷ 0 ∷ 5 ∷ 0 ∷ 0 ∷ 0 ∷ 80 ∷ 76 ∷ 78 ∷ 84 ∷ [])

-- the file of document 01, and those
abbrev files : List WriteCase
files =
    written plant_words 0 plant
    ∷ written plant_words 3 plant
    ∷ written two_words 1 two_bytes
    ∷ written four_words 1 four_bytes
    ∷ written (joined (times 5 four_words)) 1 five_bytes
    ∷ []

-- 22: one byte short, none at all
abbrev rooms : List WriteCase
rooms = unwritten plant_words 119 (refuse 22) ∷ unwritten plant_words 0 (refuse 22) ∷ []

-- an action whose six numbers are these, without allocations; one of 9 ms with n allocations of 1 ms each, of which at most four are given
abbrev plainly : List ℕ → List ℕ
plainly six = lent six 0 []

abbrev uses : ℕ → List ℕ
uses n = lent (0 ∷ 0 ∷ 0 ∷ 0 ∷ 9 ∷ 9 ∷ []) n (joined (times 4 (0 ∷ 0 ∷ 1 ∷ [])))

-- 2: no action, no whole number of actions, 129; 128 are allowed
abbrev counts : List WriteCase
counts =
    unwritten [] 200 (refuse 2)
    ∷ unwritten (take 18 plant_words) 200 (refuse 2)
    ∷ unwritten (take 20 plant_words) 200 (refuse 2)
    ∷ unwritten (joined (times 129 (uses 5))) 200 (refuse 2)
    ∷ unwritten (joined (times 128 (uses 5))) 200 (refused 3 0)
    ∷ []

-- 3: n above 4, also where its low byte is not
abbrev numbers : List WriteCase
numbers =
    unwritten (uses 5) 200 (refused 3 0)
    ∷ unwritten (a0 ++ uses 256) 0 (refused 3 1)
    ∷ unwritten (uses 4) 0 (refuse 22)
    ∷ []

-- one allocation, the last of four
abbrev fourth : ℕ → ℕ → ℕ → List ℕ
fourth r o n = lent (0 ∷ 0 ∷ 0 ∷ 0 ∷ 9 ∷ 9 ∷ []) 4 (joined (times 3 (0 ∷ 0 ∷ 1 ∷ [])) ++ (r ∷ o ∷ n ∷ []))

-- 4: each limit one past it, and what is allowed, where 22 comes at last; a fact twice in needs, in makes
abbrev fields : List WriteCase
fields =
    unwritten (plainly (0 ∷ 0 ∷ 0 ∷ 0 ∷ 0 ∷ 9 ∷ [])) 200 (refused 4 0)
    ∷ unwritten (plainly (0 ∷ 0 ∷ 0 ∷ 0 ∷ 9 ∷ 8 ∷ [])) 200 (refused 4 0)
    ∷ unwritten (plainly (0 ∷ 0 ∷ 0 ∷ 0 ∷ 9 ∷ 1000001 ∷ [])) 200 (refused 4 0)
    ∷ unwritten (plainly (0 ∷ 0 ∷ 0 ∷ 0 ∷ 1000000 ∷ 1000000 ∷ [])) 0 (refuse 22)
    ∷ unwritten (fourth 16 0 1) 200 (refused 4 0)
    ∷ unwritten (fourth 0 1000001 1) 200 (refused 4 0)
    ∷ unwritten (fourth 0 0 0) 200 (refused 4 0)
    ∷ unwritten (fourth 0 0 1000001) 200 (refused 4 0)
    ∷ unwritten (fourth 15 1000000 1000000) 0 (refuse 22)
    ∷ unwritten (plainly (2147483648 ∷ 2147483648 ∷ 0 ∷ 0 ∷ 9 ∷ 9 ∷ [])) 200 (refused 4 0)
    ∷ unwritten (plainly (0 ∷ 0 ∷ 6 ∷ 12 ∷ 9 ∷ 9 ∷ [])) 200 (refused 4 0)
    ∷ unwritten (plainly (3 ∷ 12 ∷ 5 ∷ 10 ∷ 9 ∷ 9 ∷ [])) 0 (refuse 22)
    ∷ []

-- 3 before 4 in one action; else the first action that fails decides; and both before 22
abbrev orders : List WriteCase
orders =
    unwritten (lent (0 ∷ 0 ∷ 0 ∷ 0 ∷ 0 ∷ 9 ∷ []) 5 []) 200 (refused 3 0)
    ∷ unwritten (plainly (0 ∷ 0 ∷ 0 ∷ 0 ∷ 0 ∷ 9 ∷ []) ++ uses 5) 200 (refused 4 0)
    ∷ unwritten (uses 5 ++ plainly (0 ∷ 0 ∷ 0 ∷ 0 ∷ 0 ∷ 9 ∷ [])) 200 (refused 3 0)
    ∷ unwritten (a0 ++ lent (2 ∷ 2 ∷ 4 ∷ 2 ∷ 5 ∷ 5 ∷ []) 0 [] ++ lent (8 ∷ 0 ∷ 0 ∷ 0 ∷ 1 ∷ 1 ∷ []) 0 []) 119 (refused 4 1)
    ∷ []

abbrev pub write_table : List WriteCase
write_table = files ++ rooms ++ counts ++ numbers ++ fields ++ orders

-- ---- what a file holds

pub record HeldCase : Type 0 where
  pub bytes : List ℕ
  pub actions : List ActionFields

abbrev pub AllHeld : List HeldCase → Type 0
AllHeld [] = Unit {0}
AllHeld (c ∷ cs) = (actions_in c.bytes ≡ c.actions) × AllHeld cs

abbrev without : ℕ → ℕ → ℕ → ℕ → ℕ → ℕ → ActionFields
without nt nf mt mf short long =
    record { needs_true = nt; needs_false = nf; makes_true = mt; makes_false = mf; shortest = short; longest = long; allocations = [] }

abbrev pub held_table : List HeldCase
held_table =
    record {
      bytes = plant;
      actions =
          record {
            needs_true = 1;
            needs_false = 0;
            makes_true = 2;
            makes_false = 1;
            shortest = 10;
            longest = 20;
            allocations = record { resource = 0; offset = 0; length = 10 } ∷ [];
          }
          ∷ without 2 0 4 2 5 5
          ∷ without 8 0 0 0 1 1
          ∷ [];
    }
    ∷ record {
      bytes = two_bytes;
      actions =
          record {
            needs_true = 16909060;
            needs_false = 0;
            makes_true = 0;
            makes_false = 2147483648;
            shortest = 258;
            longest = 66051;
            allocations = record { resource = 15; offset = 1000000; length = 1 } ∷ [];
          }
          ∷ without 0 7 8 0 1 1
          ∷ [];
    }
    ∷ record {
      bytes = four_bytes;
      actions =
          record {
            needs_true = 0;
            needs_false = 0;
            makes_true = 0;
            makes_false = 0;
            shortest = 1;
            longest = 1;
            allocations =
                record { resource = 1; offset = 2; length = 3 }
                ∷ record { resource = 4; offset = 5; length = 6 }
                ∷ record { resource = 7; offset = 8; length = 9 }
                ∷ record { resource = 10; offset = 11; length = 12 }
                ∷ [];
          }
          ∷ [];
    }
    ∷ []
