-- The proving table of document 01, cases a to i and k to n, from bytes.
--   plant         "A0 needs fact 0, makes 1 true and 0 false, 10 to 20 ms, resource 0, offset 0, length 10. A1 needs 1, makes 2 true and
--                 1 false, 5 to 5. A2 needs 3, makes none, 1 to 1. It has 120 bytes, index at 96."
--   job_j b place  "Job J: fact 0 known true, goal fact 2 true, A0 A1", in batch b, with this place; like all offers here without a due time
--   settings_from  a board's H and D;  usual: a case on the usual board
--   table         document 01's cases; cases of our own, for what those do not show: FurtherTable
-- Point 0 is the origin; where the first job is J, its points are 1, 2, 3, and the second job's start is 4.
use Rattle.std.specs.Prelude.{List, [], ◌∷◌, ◌++◌, ℕ}
use Rattle.base_words.specs.Word.{u32s}
use Rattle.base_rulings.specs.declared.Ruling.{Ruling}
use Rattle.base_rulings.specs.declared.Ruling.TheVariants.{Accepted}
use Rattle.base_rulings.specs.Answer.{refuse, refused}
use Rattle.spec_plain.specs.declared.Settings.{Settings}
use Rattle.spec_rulebook.specs.Book.{Call, plan, send, clock, retire}
use Rattle.theorem_demands.specs.Cases.{Expect, earliest, latest, runs, fails, same, Case}

-- facts as masks
abbrev fact0 : ℕ
fact0 = 1

abbrev fact1 : ℕ
fact1 = 2

abbrev fact2 : ℕ
fact2 = 4

abbrev fact3 : ℕ
fact3 = 8

-- needs-true, needs-false, makes-true, makes-false, shortest, longest; n and its spare bytes; n allocations
abbrev pub plant : List ℕ
plant =
    u32s (fact0 ∷ 0 ∷ fact1 ∷ fact0 ∷ 10 ∷ 20 ∷ []) ++ (1 ∷ 0 ∷ 0 ∷ 0 ∷ []) ++ u32s (0 ∷ 0 ∷ 10 ∷ [])
    ++ u32s (fact1 ∷ 0 ∷ fact2 ∷ fact1 ∷ 5 ∷ 5 ∷ []) ++ (0 ∷ 0 ∷ 0 ∷ 0 ∷ [])
    ++ u32s (fact3 ∷ 0 ∷ 0 ∷ 0 ∷ 1 ∷ 1 ∷ []) ++ (0 ∷ 0 ∷ 0 ∷ 0 ∷ [])
    ++ u32s (0 ∷ 40 ∷ 68 ∷ [])
    ++ u32s (96 ∷ 3 ∷ []) ++ (0x50 ∷ 0x4C ∷ 0x4E ∷ 0x54 ∷ [])

-- batch, known_true, known_false, goal-true, goal-false, step count, due time; per step its action and the places of its allocations
abbrev pub job_j : ℕ → ℕ → List ℕ
job_j b place = u32s (b ∷ fact0 ∷ 0 ∷ fact2 ∷ 0 ∷ 2 ∷ 0 ∷ []) ++ u32s (0 ∷ place ∷ []) ++ u32s (1 ∷ [])

-- J's goal by A1 A0
abbrev pub offer_b : List ℕ
offer_b = u32s (0 ∷ fact0 ∷ 0 ∷ fact2 ∷ 0 ∷ 2 ∷ 0 ∷ []) ++ u32s (1 ∷ []) ++ u32s (0 ∷ 0 ∷ [])

-- goal facts 0 and 2
abbrev pub offer_c : List ℕ
offer_c = u32s (0 ∷ fact0 ∷ 0 ∷ 5 ∷ 0 ∷ 2 ∷ 0 ∷ []) ++ u32s (0 ∷ 0 ∷ []) ++ u32s (1 ∷ [])

-- goal fact 3 false, A2
abbrev pub offer_d : List ℕ
offer_d = u32s (0 ∷ 0 ∷ 0 ∷ 0 ∷ fact3 ∷ 1 ∷ 0 ∷ []) ++ u32s (2 ∷ [])

-- goal fact 0 false, A0 alone, fact 0 known true
abbrev pub offer_e : List ℕ
offer_e = u32s (0 ∷ fact0 ∷ 0 ∷ 0 ∷ fact0 ∷ 1 ∷ 0 ∷ []) ++ u32s (0 ∷ 0 ∷ [])

-- A2 in a batch, with fact 3 known and wanted
abbrev pub offer_m : ℕ → List ℕ
offer_m b = u32s (b ∷ fact3 ∷ 0 ∷ fact3 ∷ 0 ∷ 1 ∷ 0 ∷ []) ++ u32s (2 ∷ [])

-- a board's H and D
abbrev pub settings_from : ℕ → ℕ → Settings
settings_from H D = record { horizon = H; lead = D }

-- "H = 1000, D = 5 unless said"
abbrev pub usual : List Call → List Ruling → List Expect → Case
usual cs rs xs = record { settings = settings_from 1000 5; calls = cs; rulings = rs; expects = xs }

-- J, placed first in its line
abbrev pub J : Call
J = plan plant (job_j 0 0)

abbrev pub table : List Case
table =
    -- a: J gives windows 5..985, 15..995, 20..1000
    usual (J ∷ []) (Accepted ∷ []) (earliest 1 5 ∷ latest 1 985 ∷ earliest 2 15 ∷ latest 2 995 ∷ earliest 3 20 ∷ latest 3 1000 ∷ [])
    -- b: A1 A0 for J's goal: 13, fact 1
    ∷ usual (plan plant offer_b ∷ []) (refused 13 1 ∷ []) (fails plant offer_b ∷ [])
    -- c: goal facts 0 and 2: 11, step 0
    ∷ usual (plan plant offer_c ∷ []) (refused 11 0 ∷ []) (fails plant offer_c ∷ [])
    -- d: goal fact 3 false, A2: 12, step 0
    ∷ usual (plan plant offer_d ∷ []) (refused 12 0 ∷ []) (fails plant offer_d ∷ [])
    -- e: goal fact 0 false, A0 alone, fact 0 known true: accepted
    ∷ usual (plan plant offer_e ∷ []) (Accepted ∷ []) (runs plant offer_e ∷ [])
    -- f: H = 20 accepts J; g: H = 19: 17
    ∷ record { settings = settings_from 20 5; calls = J ∷ []; rulings = Accepted ∷ []; expects = [] }
    ∷ record { settings = settings_from 19 5; calls = J ∷ []; rulings = refuse 17 ∷ []; expects = [] }
    -- h: J again with place 1: starts at 15 earliest, first J's start 5..975
    ∷ usual (J ∷ plan plant (job_j 0 1) ∷ []) (Accepted ∷ Accepted ∷ []) (earliest 4 15 ∷ earliest 1 5 ∷ latest 1 975 ∷ [])
    -- i: J sent, J again with place 0: 17
    ∷ usual (J ∷ send 0 ∷ J ∷ []) (Accepted ∷ Accepted ∷ refuse 17 ∷ []) []
    -- k: J, clock 980: start 985..985; clock 981 instead: 20
    ∷ usual (J ∷ clock 980 ∷ []) (Accepted ∷ Accepted ∷ []) (earliest 1 985 ∷ latest 1 985 ∷ [])
    ∷ usual (J ∷ clock 981 ∷ []) (Accepted ∷ refuse 20 ∷ []) []
    -- l: J sent, clock 19: retire is 21; clock 20: accepted
    ∷ usual (J ∷ send 0 ∷ clock 19 ∷ retire ∷ []) (Accepted ∷ Accepted ∷ Accepted ∷ refuse 21 ∷ []) []
    ∷ usual (J ∷ send 0 ∷ clock 20 ∷ retire ∷ []) (Accepted ∷ Accepted ∷ Accepted ∷ Accepted ∷ []) []
    -- m: J in batch 7, then A2 in batch 7 with fact 3 known and wanted: earliest 19, 20
    ∷ usual (plan plant (job_j 7 0) ∷ plan plant (offer_m 7) ∷ []) (Accepted ∷ Accepted ∷ []) (earliest 4 19 ∷ earliest 5 20 ∷ [])
    -- n: D = 5 at clock 0 and D = 0 at clock 5, then J: equal tables
    ∷ usual (J ∷ []) (Accepted ∷ []) (same (settings_from 1000 0) (clock 5 ∷ J ∷ []) (Accepted ∷ Accepted ∷ []) ∷ [])
    ∷ []
