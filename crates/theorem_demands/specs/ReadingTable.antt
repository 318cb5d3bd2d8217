-- What is read from bytes, case by case: plant files, the parts that they hand out, and offers. For what document 01's cases do not show: limits at
-- their value and one past it, the fields of a record, high bytes, and the order of refusals.
--   with_byte at b s     bytes with another byte at a place
--   PlantCase           a plant file and its ruling;  plant_table: its cases, by refusals
--   PartCase            a plant file, an action, and the part that holds its allocations;  part_table: its cases
--   OfferCase           a plant file, an offer, its ruling by the fact check, and its ruling by a plan's reading on a board of horizon 1000;
--                       checked: where the two are alike;  apart: where they are not;  offer_table: its cases
--   SpelledCase         a plant file, an offer's bytes, and the offer that they spell;  spelled_table: its cases
--   AllPlants, AllParts, AllOffers, AllSpelled   each of a list of cases is so
use Rattle.std.specs.Prelude.{◌≡◌, List, [], ◌∷◌, ◌++◌, ℕ, length, take, drop, set}
use Rattle.base_rulings.specs.declared.Ruling.{Ruling}
use Rattle.base_rulings.specs.declared.Ruling.TheVariants.{Accepted, Refused}
use Rattle.base_rulings.specs.Answer.{refuse, refused}
use Rattle.read_plant.specs.Plant.{plant_ruling, allocations_of}
use Rattle.read_offer.specs.Offer.{fact_check}
use Rattle.spec_plain.specs.declared.Step.{Step}
use Rattle.spec_plain.specs.declared.Allocation.{Allocation}
use Rattle.spec_plain.specs.Plain.{Offer}
use Rattle.spec_rulebook.specs.Reading.{Reading, bad, good, reading_of}
use Rattle.spec_rulebook.specs.Book.{fresh}
use Rattle.base_words.specs.Word.{u32s}
use Rattle.write_plant.specs.Written.{joined, mark, file_of}
use Rattle.theorem_demands.specs.ProvingTable.{plant, job_j, offer_b, offer_c, offer_d, settings_from}
use Rattle.theorem_demands.specs.FurtherTable.{times, action, offer, with_word}
use Rattle.theorem_demands.specs.DueTable.{due_by}

abbrev pub with_byte : ℕ → ℕ → List ℕ → List ℕ
with_byte at b s = set s at b

-- an action by its masks, needs and then makes, of 1 ms and without allocations
abbrev changing : ℕ → ℕ → ℕ → ℕ → List ℕ
changing nt nf mt mf = u32s (nt ∷ nf ∷ mt ∷ mf ∷ 1 ∷ 1 ∷ []) ++ (0 ∷ 0 ∷ 0 ∷ 0 ∷ [])

-- ---- plant files

pub record PlantCase : Type 0 where
  pub bytes : List ℕ
  pub ruling : Ruling

abbrev pub AllPlants : List PlantCase → Type 0
AllPlants [] = Unit {0}
AllPlants (c ∷ cs) = (plant_ruling c.bytes ≡ c.ruling) × AllPlants cs

abbrev ruled : List ℕ → Ruling → PlantCase
ruled s r = record { bytes = s; ruling = r }

-- document 01's plant: A0 from 0 with an allocation at 28, A1 from 40, A2 from 68, the index from 96, the trailer from 108
abbrev pub trailers : List PlantCase
trailers =
    ruled plant Accepted
    -- 1: under 12 bytes, though they end with the mark; each byte of the mark counts
    ∷ ruled (drop 109 plant) (refuse 1)
    ∷ ruled (with_byte 116 0x4F plant) (refuse 1)
    ∷ ruled (with_byte 117 0x4B plant) (refuse 1)
    ∷ ruled (with_byte 118 0x4D plant) (refuse 1)
    ∷ ruled (with_byte 119 0x53 plant) (refuse 1)
    -- 2: no action, though the length is right; 128 actions are allowed, here with nothing but an index, and 129 are not
    ∷ ruled (u32s (0 ∷ 0 ∷ []) ++ mark) (refuse 2)
    ∷ ruled (times 512 0 ++ u32s (0 ∷ 128 ∷ []) ++ mark) (refused 3 0)
    ∷ ruled (times 516 0 ++ u32s (0 ∷ 129 ∷ []) ++ mark) (refuse 2)
    -- the index starts a byte too early, or a byte too late
    ∷ ruled (with_word 108 95 plant) (refuse 2)
    ∷ ruled (with_word 108 97 plant) (refuse 2)
    -- a sum that fits only where it wraps at 32 bits
    ∷ ruled (u32s (4294967292 ∷ 1 ∷ []) ++ mark) (refuse 2)
    -- 1 comes before 2
    ∷ ruled (with_byte 119 0 (with_word 112 0 plant)) (refuse 1)
    ∷ []

-- an action of 9 ms with n uses of resource 0
abbrev uses : ℕ → List ℕ
uses n = action 9 n (joined (times n (0 ∷ 0 ∷ 1 ∷ [])))

-- A0 and A1 alone, and an index that begins a byte behind A1
abbrev short : List ℕ
short = take 68 plant ++ (0 ∷ []) ++ u32s (0 ∷ 40 ∷ 69 ∷ 2 ∷ []) ++ mark

abbrev pub records : List PlantCase
records =
    -- 3: an index entry is where the record before ended, and 0 for the first
    ruled (with_word 96 1 plant) (refused 3 0)
    ∷ ruled (with_word 100 39 plant) (refused 3 1)
    ∷ ruled (with_word 104 69 plant) (refused 3 2)
    -- A2 with an allocation passes the index; so does one that lacks its last byte, by that byte
    ∷ ruled (with_byte 92 1 plant) (refused 3 2)
    ∷ ruled (take 95 plant ++ u32s (0 ∷ 40 ∷ 68 ∷ 95 ∷ 3 ∷ []) ++ mark) (refused 3 2)
    -- so does one that has no room at all, or room for count and spare bytes in part
    ∷ ruled (take 68 plant ++ u32s (0 ∷ 40 ∷ 68 ∷ 68 ∷ 3 ∷ []) ++ mark) (refused 3 2)
    ∷ ruled (times 26 0 ++ u32s (0 ∷ 26 ∷ 1 ∷ []) ++ mark) (refused 3 0)
    -- n is 4 at most
    ∷ ruled (file_of (uses 4 ∷ [])) Accepted
    ∷ ruled (file_of (uses 5 ∷ [])) (refused 3 0)
    -- three spare bytes, and each is 0
    ∷ ruled (with_byte 65 1 plant) (refused 3 1)
    ∷ ruled (with_byte 66 1 plant) (refused 3 1)
    ∷ ruled (with_byte 95 1 plant) (refused 3 2)
    -- in the first record too, and its top bit
    ∷ ruled (with_byte 25 1 plant) (refused 3 0)
    ∷ ruled (with_byte 67 128 plant) (refused 3 1)
    -- the last one ends a byte short of the index
    ∷ ruled short (refused 3 1)
    -- 2 comes before 3
    ∷ ruled (with_word 96 1 (with_word 108 95 plant)) (refuse 2)
    ∷ []

abbrev pub actions : List PlantCase
actions =
    -- 4: 1 ≤ shortest ≤ longest ≤ 1,000,000; A1 has 5 to 5, and A2 1 to 1
    ruled (with_word 16 0 plant) (refused 4 0)
    ∷ ruled (with_word 16 21 plant) (refused 4 0)
    ∷ ruled (with_word 20 1000000 plant) Accepted
    ∷ ruled (with_word 20 1000001 plant) (refused 4 0)
    ∷ ruled (with_word 56 6 plant) (refused 4 1)
    -- resource 0 to 15, offset 0 to 1,000,000, length 1 to 1,000,000
    ∷ ruled (with_word 28 15 plant) Accepted
    ∷ ruled (with_word 28 16 plant) (refused 4 0)
    ∷ ruled (with_word 28 256 plant) (refused 4 0)
    ∷ ruled (with_word 32 1000000 plant) Accepted
    ∷ ruled (with_word 32 1000001 plant) (refused 4 0)
    ∷ ruled (with_word 36 0 plant) (refused 4 0)
    ∷ ruled (with_word 36 1 plant) Accepted
    ∷ ruled (with_word 36 1000000 plant) Accepted
    ∷ ruled (with_word 36 1000001 plant) (refused 4 0)
    -- each allocation is looked at
    ∷ ruled (with_word 28 16 (file_of (uses 4 ∷ []))) (refused 4 0)
    ∷ ruled (with_word 40 16 (file_of (uses 4 ∷ []))) (refused 4 0)
    ∷ ruled (with_word 56 1000001 (file_of (uses 4 ∷ []))) (refused 4 0)
    ∷ ruled (with_word 72 0 (file_of (uses 4 ∷ []))) (refused 4 0)
    -- a fact twice in the needs, twice in the makes; but it may be needed, either way, and made, either way
    ∷ ruled (with_word 4 1 plant) (refused 4 0)
    ∷ ruled (with_word 12 2 plant) (refused 4 0)
    ∷ ruled (file_of (changing 2147483648 2147483648 0 0 ∷ [])) (refused 4 0)
    ∷ ruled (file_of (changing 3 12 5 10 ∷ [])) Accepted
    -- action by action: A0's 4 comes before A1's 3, also where that is of its index entry or its end; of one action 3 comes before 4
    ∷ ruled (with_word 16 0 (with_byte 65 1 plant)) (refused 4 0)
    ∷ ruled (with_word 16 0 (with_word 100 39 plant)) (refused 4 0)
    ∷ ruled (with_word 56 0 (with_word 104 69 plant)) (refused 4 1)
    ∷ ruled (with_word 16 0 short) (refused 4 0)
    ∷ ruled (with_word 16 0 (with_byte 25 1 plant)) (refused 3 0)
    ∷ ruled (with_word 56 0 short) (refused 3 1)
    ∷ []

abbrev pub plant_table : List PlantCase
plant_table = trailers ++ records ++ actions

-- ---- the parts that hold allocations

pub record PartCase : Type 0 where
  pub bytes : List ℕ
  pub number : ℕ
  pub part : List ℕ

abbrev pub AllParts : List PartCase → Type 0
AllParts [] = Unit {0}
AllParts (c ∷ cs) = (allocations_of c.bytes c.number ≡ c.part) × AllParts cs

-- two actions: the first with one allocation, the second with three
abbrev mixed : List ℕ
mixed = file_of (action 10 1 (1 ∷ 2 ∷ 3 ∷ []) ∷ action 30 3 (4 ∷ 5 ∷ 6 ∷ 7 ∷ 8 ∷ 9 ∷ 10 ∷ 11 ∷ 12 ∷ []) ∷ [])

abbrev pub part_table : List PartCase
part_table =
    -- each action's own, all of them and nothing else
    record { bytes = mixed; number = 0; part = u32s (1 ∷ 2 ∷ 3 ∷ []) }
    ∷ record { bytes = mixed; number = 1; part = u32s (4 ∷ 5 ∷ 6 ∷ 7 ∷ 8 ∷ 9 ∷ 10 ∷ 11 ∷ 12 ∷ []) }
    -- an action that the file lacks, though there are bytes where it would stand; and a bad file, whichever of its actions is bad
    ∷ record { bytes = file_of (times 7 (action 1 0 [])); number = 7; part = [] }
    ∷ record { bytes = with_word 16 0 mixed; number = 1; part = [] }
    ∷ record { bytes = with_word 56 0 mixed; number = 0; part = [] }
    ∷ []

-- ---- offers

pub record OfferCase : Type 0 where
  pub plant_bytes : List ℕ
  pub offer_bytes : List ℕ
  pub by_check : Ruling
  pub by_plan : Ruling

abbrev reading_ruling : Reading → Ruling
reading_ruling (bad c) = Refused c
reading_ruling (good o) = Accepted

-- on a fresh board of the horizon H
abbrev reading_on : ℕ → List ℕ → List ℕ → Reading
reading_on H p o = reading_of (fresh (settings_from H 5)).state p o

abbrev pub AllOffers : List OfferCase → Type 0
AllOffers [] = Unit {0}
AllOffers (c ∷ cs) =
    ((fact_check c.plant_bytes c.offer_bytes ≡ c.by_check)
    × (reading_ruling (reading_on 1000 c.plant_bytes c.offer_bytes) ≡ c.by_plan))
    × AllOffers cs

abbrev apart : List ℕ → List ℕ → Ruling → Ruling → OfferCase
apart p o r q = record { plant_bytes = p; offer_bytes = o; by_check = r; by_plan = q }

abbrev checked : List ℕ → List ℕ → Ruling → OfferCase
checked p o r = apart p o r r

-- job J has 40 bytes: its due time at 24, A0 at 28, its place at 32, A1 at 36
abbrev pub layouts : List OfferCase
layouts =
    checked plant (job_j 0 0) Accepted
    -- 7: under 28 bytes, also where 24 of them make a header; 1 to 8 steps
    ∷ checked plant (take 27 (job_j 0 0)) (refuse 7)
    ∷ checked plant (take 24 (job_j 0 0)) (refuse 7)
    ∷ checked plant (offer 0 0 []) (refuse 7)
    ∷ checked (file_of (action 10 0 [] ∷ [])) (offer 0 8 (times 8 0)) Accepted
    ∷ checked (file_of (action 10 0 [] ∷ [])) (offer 0 9 (times 9 0)) (refuse 7)
    ∷ checked plant (with_word 20 257 (job_j 0 0)) (refuse 7)
    -- 8: no step, an action number cut off, a place cut off, in step 1 too
    ∷ checked plant (take 28 (job_j 0 0)) (refused 8 0)
    ∷ checked plant (take 31 (job_j 0 0)) (refused 8 0)
    ∷ checked plant (take 35 (job_j 0 0)) (refused 8 0)
    ∷ checked plant (take 39 (job_j 0 0)) (refused 8 1)
    -- the plant has no action 3
    ∷ checked plant (with_word 36 3 (job_j 0 0)) (refused 8 1)
    ∷ checked plant (with_word 36 256 (job_j 0 0)) (refused 8 1)
    -- 9: a byte left over
    ∷ checked plant (job_j 0 0 ++ (0 ∷ [])) (refuse 9)
    -- the plant comes before the offer: 1, 2 and 4 before 7
    ∷ checked (with_byte 119 0 plant) (take 27 (job_j 0 0)) (refuse 1)
    ∷ checked (with_word 112 0 plant) (take 27 (job_j 0 0)) (refuse 2)
    ∷ checked (with_word 16 0 plant) (take 27 (job_j 0 0)) (refused 4 0)
    -- 7 comes before 8 and before 9, 8 before 9, 9 before 10, and 10 before 11
    ∷ checked plant (with_word 20 9 (job_j 0 0)) (refuse 7)
    ∷ checked plant (with_word 20 0 (job_j 0 0)) (refuse 7)
    ∷ checked plant (with_word 28 3 (job_j 0 0)) (refused 8 0)
    ∷ checked plant (with_word 8 1 (job_j 0 0 ++ (0 ∷ []))) (refuse 9)
    ∷ checked plant (with_word 16 4 (with_word 4 0 (job_j 0 0))) (refuse 10)
    ∷ []

-- facts known and wanted, and the actions of the steps, none with an allocation
abbrev wanting : ℕ → ℕ → ℕ → ℕ → List ℕ → List ℕ
wanting kt kf gt gf chain = u32s (0 ∷ kt ∷ kf ∷ gt ∷ gf ∷ length chain ∷ 0 ∷ []) ++ u32s chain

-- four actions: 0 needs fact 0 true and 1 false, and makes 2 true and 3 false; 1 needs 2 true and 3 false, and makes 1 true and 0 false;
-- 2 needs and makes nothing; 3 needs 0 true and 1 false, and makes them so
abbrev changes : List ℕ
changes = file_of (changing 1 2 4 8 ∷ changing 4 8 2 1 ∷ changing 0 0 0 0 ∷ changing 1 2 1 2 ∷ [])

abbrev pub chains : List OfferCase
chains =
    -- facts 0 true and 1 false; in two steps they are the other way
    checked changes (wanting 1 2 4 8 (0 ∷ [])) Accepted
    ∷ checked changes (wanting 1 2 2 1 (0 ∷ 1 ∷ [])) Accepted
    ∷ checked changes (wanting 1 2 2 1 (2 ∷ 0 ∷ 1 ∷ [])) Accepted
    -- what no step makes must be known, false or true
    ∷ checked changes (wanting 16 32 16 32 (2 ∷ [])) Accepted
    -- 10: known both ways, wanted both ways
    ∷ checked changes (wanting 1 1 0 0 (2 ∷ [])) (refuse 10)
    ∷ checked changes (wanting 0 0 1 1 (2 ∷ [])) (refuse 10)
    -- also where 13 or 11 would come
    ∷ checked changes (wanting 1 1 2 0 (2 ∷ [])) (refuse 10)
    ∷ checked changes (wanting 1 1 8 0 (0 ∷ [])) (refuse 10)
    -- 11: a step makes false what is needed true, or true what is needed false
    ∷ checked changes (wanting 1 2 8 0 (0 ∷ [])) (refused 11 0)
    ∷ checked changes (wanting 1 2 0 4 (0 ∷ [])) (refused 11 0)
    ∷ checked changes (wanting 1 2 1 0 (2 ∷ 0 ∷ 1 ∷ [])) (refused 11 2)
    -- 12: a step needs true what is needed false after it, or false what is needed true
    ∷ checked changes (wanting 1 2 0 1 (0 ∷ [])) (refused 12 0)
    ∷ checked changes (wanting 1 2 2 0 (0 ∷ [])) (refused 12 0)
    -- at one step 11 comes before 12; step by step, last first; both come before 13
    ∷ checked changes (wanting 1 2 8 1 (0 ∷ [])) (refused 11 0)
    ∷ checked changes (wanting 1 2 8 1 (0 ∷ 3 ∷ [])) (refused 11 1)
    ∷ checked changes (wanting 4 8 0 1 (1 ∷ 0 ∷ [])) (refused 12 1)
    ∷ checked changes (wanting 0 0 0 1 (0 ∷ [])) (refused 12 0)
    -- 13: an unknown fact is neither, and one known the other way is not known so
    ∷ checked changes (wanting 0 2 4 8 (0 ∷ [])) (refused 13 0)
    ∷ checked changes (wanting 1 0 4 8 (0 ∷ [])) (refused 13 1)
    ∷ checked changes (wanting 0 3 4 8 (0 ∷ [])) (refused 13 0)
    ∷ checked changes (wanting 3 0 4 8 (0 ∷ [])) (refused 13 1)
    -- the lowest lacking fact, needed true or false, up to fact 31
    ∷ checked changes (wanting 0 0 2 1 (2 ∷ [])) (refused 13 0)
    ∷ checked changes (wanting 0 0 1 2 (2 ∷ [])) (refused 13 0)
    ∷ checked changes (wanting 0 0 2147483648 0 (2 ∷ [])) (refused 13 31)
    ∷ checked changes (wanting 0 0 0 2147483648 (2 ∷ [])) (refused 13 31)
    -- what a step makes is struck before its own needs are added: what it needs and makes is needed before it
    ∷ checked changes (wanting 0 2 1 2 (3 ∷ [])) (refused 13 0)
    ∷ checked changes (wanting 1 0 1 2 (3 ∷ [])) (refused 13 1)
    ∷ []

-- 23 is tested by plan alone, past 1 to 4 and 7 to 10 and before 11 to 13
abbrev pub dues : List OfferCase
dues =
    apart plant (due_by 1001 (job_j 0 0)) Accepted (refuse 23)
    ∷ checked plant (due_by 1000 (job_j 0 0)) Accepted
    ∷ apart plant (due_by 4294967295 (job_j 0 0)) Accepted (refuse 23)
    ∷ checked (with_byte 119 0 plant) (due_by 1001 (job_j 0 0)) (refuse 1)
    ∷ checked (with_word 16 0 plant) (due_by 1001 (job_j 0 0)) (refused 4 0)
    ∷ checked plant (due_by 1001 (with_word 20 9 (job_j 0 0))) (refuse 7)
    ∷ checked plant (due_by 1001 (with_word 28 3 (job_j 0 0))) (refused 8 0)
    ∷ checked plant (due_by 1001 (job_j 0 0 ++ (0 ∷ []))) (refuse 9)
    ∷ checked plant (due_by 1001 (with_word 16 4 (job_j 0 0))) (refuse 10)
    ∷ checked plant (due_by 1001 (with_word 8 1 (job_j 0 0))) (refuse 10)
    ∷ apart plant (due_by 1001 offer_c) (refused 11 0) (refuse 23)
    ∷ apart plant (due_by 1001 offer_d) (refused 12 0) (refuse 23)
    ∷ apart plant (due_by 1001 offer_b) (refused 13 1) (refuse 23)
    ∷ []

abbrev pub offer_table : List OfferCase
offer_table = layouts ++ chains ++ dues

-- ---- an offer as it is read

pub record SpelledCase : Type 0 where
  pub plant_bytes : List ℕ
  pub offer_bytes : List ℕ
  pub spelled : Offer

abbrev pub AllSpelled : List SpelledCase → Type 0
AllSpelled [] = Unit {0}
AllSpelled (c ∷ cs) = (reading_on 100000000 c.plant_bytes c.offer_bytes ≡ good c.spelled) × AllSpelled cs

abbrev lasts : ℕ → ℕ → Step
lasts short long = record { shortest = short; longest = long }

abbrev taking : ℕ → ℕ → ℕ → ℕ → ℕ → Allocation
taking r p k a l = record { resource = r; place = p; step = k; offset = a; length = l }

-- batch and due time, each step's durations, each allocation's resource, offset and length from the plant, and its place and step from the offer
abbrev pub spelled_table : List SpelledCase
spelled_table =
    record {
      plant_bytes = with_word 20 11 mixed;
      offer_bytes = due_by 67305985 (offer 77 3 (1 ∷ 20 ∷ 21 ∷ 22 ∷ 0 ∷ 23 ∷ 1 ∷ 24 ∷ 25 ∷ 26 ∷ []));
      spelled =
          record {
            batch = 77;
            due = 67305985;
            steps = lasts 30 30 ∷ lasts 10 11 ∷ lasts 30 30 ∷ [];
            allocations =
                taking 4 20 0 5 6
                ∷ taking 7 21 0 8 9
                ∷ taking 10 22 0 11 12
                ∷ taking 1 23 1 2 3
                ∷ taking 4 24 2 5 6
                ∷ taking 7 25 2 8 9
                ∷ taking 10 26 2 11 12
                ∷ [];
          };
    }
    ∷ []
