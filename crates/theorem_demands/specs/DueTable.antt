-- Cases on due times (document 02, Note 2), in the form of the proving table.
--   due_by q o      the offer o with the due time q;  Jby q place: a plan of J with it
--   due_table       the cases
-- Point 0 is the origin; the first job's points are 1, 2, 3, and the second job's start is 4.
use Rattle.std.specs.Prelude.{List, [], ◌∷◌, ℕ}
use Rattle.base_rulings.specs.declared.Ruling.TheVariants.{Accepted}
use Rattle.base_rulings.specs.Answer.{refuse}
use Rattle.spec_rulebook.specs.Book.{Call, plan, send, clock, retire}
use Rattle.theorem_demands.specs.Cases.{earliest, latest, due, same, Case}
use Rattle.theorem_demands.specs.ProvingTable.{plant, job_j, offer_b, offer_c, offer_m, settings_from, usual, J}
use Rattle.theorem_demands.specs.FurtherTable.{long, times, offer, with_word}

-- the due time is the last word of an offer's header
abbrev pub due_by : ℕ → List ℕ → List ℕ
due_by q o = with_word 24 q o

abbrev pub Jby : ℕ → ℕ → Call
Jby q place = plan plant (due_by q (job_j 0 place))

abbrev pub due_table : List Case
due_table =
    -- J's last point is no later than its due time: at 20 it just comes in time, at 19 it does not
    usual (Jby 20 0 ∷ []) (Accepted ∷ []) (earliest 1 5 ∷ latest 1 5 ∷ earliest 2 15 ∷ latest 2 15 ∷ earliest 3 20 ∷ latest 3 20 ∷ due 0 20 ∷ [])
    ∷ usual (Jby 19 0 ∷ []) (refuse 17 ∷ []) []
    ∷ usual (Jby 1 0 ∷ []) (refuse 17 ∷ []) []
    -- it bounds the last point alone: the first may be as late as the steps allow
    ∷ usual (Jby 100 0 ∷ []) (Accepted ∷ []) (earliest 1 5 ∷ latest 1 85 ∷ latest 2 95 ∷ earliest 3 20 ∷ latest 3 100 ∷ [])
    -- at H it binds nothing, and the table is that of no due time; at 999 it takes one millisecond, and the job behind, without one, may end at H
    ∷ usual (Jby 1000 0 ∷ []) (Accepted ∷ []) (latest 3 1000 ∷ due 0 1000 ∷ same (settings_from 1000 5) (J ∷ []) (Accepted ∷ []) ∷ [])
    ∷ usual (Jby 999 0 ∷ plan plant (job_j 0 1) ∷ []) (Accepted ∷ Accepted ∷ []) (latest 3 999 ∷ latest 6 1000 ∷ due 0 999 ∷ due 1 0 ∷ [])
    -- 23 past H: by the high bytes too
    ∷ usual (Jby 1001 0 ∷ Jby 4294967295 0 ∷ Jby 16777216 0 ∷ []) (refuse 23 ∷ refuse 23 ∷ refuse 23 ∷ []) []
    -- straight after 10, and before 11, 13 and 15
    ∷ usual (plan plant (due_by 1001 (with_word 16 4 (job_j 0 0))) ∷ []) (refuse 10 ∷ []) []
    ∷ usual (plan plant (due_by 1001 offer_c) ∷ plan plant (due_by 1001 offer_b) ∷ Jby 1001 1 ∷ []) (refuse 23 ∷ refuse 23 ∷ refuse 23 ∷ []) []
    -- which of two goes first: with place 1 the second would end at 30
    ∷ usual (J ∷ Jby 20 1 ∷ Jby 20 0 ∷ []) (Accepted ∷ refuse 17 ∷ Accepted ∷ []) (earliest 1 15 ∷ latest 4 5 ∷ latest 6 20 ∷ [])
    -- the rule stays: a clock that leaves no time is 20, and a place before the job is 17
    ∷ usual (Jby 100 0 ∷ clock 81 ∷ clock 80 ∷ []) (Accepted ∷ refuse 20 ∷ Accepted ∷ []) (earliest 1 85 ∷ latest 1 85 ∷ [])
    ∷ usual (Jby 20 0 ∷ J ∷ plan plant (job_j 0 1) ∷ []) (Accepted ∷ refuse 17 ∷ Accepted ∷ []) (earliest 4 15 ∷ [])
    -- it counts from the origin, whatever the clock; a due time that is over is 17 and not 23
    ∷ usual (clock 5 ∷ Jby 24 0 ∷ Jby 25 0 ∷ []) (Accepted ∷ refuse 17 ∷ Accepted ∷ []) (latest 1 10 ∷ latest 3 25 ∷ [])
    ∷ usual (clock 50 ∷ Jby 40 0 ∷ Jby 1000 0 ∷ []) (Accepted ∷ refuse 17 ∷ Accepted ∷ []) []
    -- with rule (e): the last point is no earlier than that of the job before it in its batch, and no later than due; a job of one step
    ∷ usual (plan plant (job_j 7 0) ∷ plan plant (due_by 19 (offer_m 7)) ∷ plan plant (due_by 20 (offer_m 7)) ∷ []) (Accepted ∷ refuse 17 ∷ Accepted ∷ [])
    (latest 3 20 ∷ latest 4 19 ∷ earliest 5 20 ∷ due 1 20 ∷ [])
    -- of the last point, not of the uses: one that outlasts its step ends at 35
    ∷ usual (plan long (due_by 6 (offer 0 1 (0 ∷ 0 ∷ []))) ∷ []) (Accepted ∷ []) (latest 1 5 ∷ latest 2 6 ∷ [])
    -- the record keeps it when the job is sent, and when another retires
    ∷ usual (Jby 40 0 ∷ send 0 ∷ []) (times 2 Accepted) (latest 3 20 ∷ due 0 40 ∷ [])
    ∷ usual (J ∷ Jby 40 1 ∷ send 0 ∷ clock 20 ∷ retire ∷ []) (times 5 Accepted) (earliest 1 25 ∷ latest 3 40 ∷ due 0 40 ∷ [])
    ∷ []
