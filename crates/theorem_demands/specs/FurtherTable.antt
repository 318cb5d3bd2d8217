-- Cases of our own in the form of the proving table, for what document 01's cases do not show.
--   action t n us       the record of an action without facts, of t ms and with the n allocations us
--   offer b n ws        an offer without facts in batch b, of n steps that ws spells: an action and its places for each
--   with_word at n s     bytes with another u32 at a place
--   twice, long         plants of one action each
--   trailing, elastic   plants of two actions;  trails p q: a plan of both of the first, with the places of its uses;  stretches n ws: a plan of the second
--   crossing            a plant of one action that uses two resources;  crosses p q: a plan of it, with its places in their lines
--   pair                a plant of two actions: 0 moves, 10 ms without a use; 1 turns, 5 ms that use resource 1
--   moves, turns p      plans of each alone, with the place of the turn
--   times n x           x, n times over
--   further_table        the cases, by what they are about
--   DraftCase           a state, an offer on it, and what the plain machine says of it before timetables are looked at;  Drafts: it does
--   draft_table          the limits of 14 to 16, on states that a run would take too long to reach
-- Point 0 is the origin; where the first job is J, its points are 1, 2, 3, and the second job's start is 4.
use Rattle.std.specs.Prelude.{◌≡◌, List, [], ◌∷◌, ◌++◌, map, ℕ, zero, suc, ◌+◌, take, drop}
use Rattle.base_rulings.specs.declared.Ruling.{Ruling}
use Rattle.base_rulings.specs.declared.Ruling.TheVariants.{Accepted, Refused}
use Rattle.base_rulings.specs.Answer.{refuse, refused}
use Rattle.base_words.specs.Word.{u32, u32s}
use Rattle.write_plant.specs.Written.{file_of}
use Rattle.spec_plain.specs.declared.Allocation.{Allocation}
use Rattle.spec_plain.specs.Plain.{State, Offer, Draft, with_jobs, with_lines, new_job, drafted}
use Rattle.spec_rulebook.specs.Book.{Call, plan, send, clock, retire, fresh}
use Rattle.theorem_demands.specs.Cases.{earliest, latest, Case}
use Rattle.theorem_demands.specs.ProvingTable.{plant, job_j, offer_m, settings_from, usual, J}

-- ---- plants and offers

abbrev pub action : ℕ → ℕ → List ℕ → List ℕ
action t n us = u32s (0 ∷ 0 ∷ 0 ∷ 0 ∷ t ∷ t ∷ []) ++ (n ∷ 0 ∷ 0 ∷ 0 ∷ []) ++ u32s us

abbrev pub offer : ℕ → ℕ → List ℕ → List ℕ
offer b n ws = u32s (b ∷ 0 ∷ 0 ∷ 0 ∷ 0 ∷ n ∷ 0 ∷ []) ++ u32s ws

abbrev pub with_word : ℕ → ℕ → List ℕ → List ℕ
with_word at n s = take at s ++ u32 n ++ drop (at + 4) s

-- 40 ms, with two uses of resource 0: 0 to 10 and 20 to 30
abbrev pub twice : List ℕ
twice = file_of (action 40 2 (0 ∷ 0 ∷ 10 ∷ 0 ∷ 20 ∷ 10 ∷ []) ∷ [])

-- 1 ms, with a use of resource 0 that outlasts it: 0 to 30
abbrev pub long : List ℕ
long = file_of (action 1 1 (0 ∷ 0 ∷ 30 ∷ []) ∷ [])

-- 1 ms, with a use of resource 0 from 3 to 7, and one of resource 15 from 2 to 9
abbrev pub crossing : List ℕ
crossing = file_of (action 1 2 (0 ∷ 3 ∷ 4 ∷ 15 ∷ 2 ∷ 7 ∷ []) ∷ [])

abbrev pub crosses : ℕ → ℕ → Call
crosses p q = plan crossing (offer 0 1 (0 ∷ p ∷ q ∷ []))

-- 10 ms that use nothing, and then 1 ms with two uses of resource 3 that outlast it: 0 to 10 and 20 to 30
abbrev pub trailing : List ℕ
trailing = file_of (action 10 0 [] ∷ action 1 2 (3 ∷ 0 ∷ 10 ∷ 3 ∷ 20 ∷ 10 ∷ []) ∷ [])

abbrev pub trails : ℕ → ℕ → Call
trails p q = plan trailing (offer 0 2 (0 ∷ 1 ∷ p ∷ q ∷ []))

-- 10 to 20 ms: 0 uses nothing, 1 uses resource 0 from 0 to 30
abbrev pub elastic : List ℕ
elastic =
    file_of
    ((u32s (0 ∷ 0 ∷ 0 ∷ 0 ∷ 10 ∷ 20 ∷ []) ++ (0 ∷ 0 ∷ 0 ∷ 0 ∷ []))
    ∷ (u32s (0 ∷ 0 ∷ 0 ∷ 0 ∷ 10 ∷ 20 ∷ []) ++ (1 ∷ 0 ∷ 0 ∷ 0 ∷ []) ++ u32s (0 ∷ 0 ∷ 30 ∷ []))
    ∷ [])

abbrev pub stretches : ℕ → List ℕ → Call
stretches n ws = plan elastic (offer 0 n ws)

abbrev pub pair : List ℕ
pair = file_of (action 10 0 [] ∷ action 5 1 (1 ∷ 0 ∷ 5 ∷ []) ∷ [])

abbrev pub turns : ℕ → Call
turns p = plan pair (offer 0 1 (1 ∷ p ∷ []))

-- one step that uses nothing: two points
abbrev pub moves : Call
moves = plan pair (offer 0 1 (0 ∷ []))

abbrev pub times : {A : Type 0} → ℕ → A → List A
times zero x = []
times (suc n) x = x ∷ times n x

-- ---- the cases

abbrev pub places : List Case
places =
    -- a place counts the offer's own earlier allocations: the second goes behind the first, and no further
    usual (plan twice (offer 0 1 (0 ∷ 0 ∷ 1 ∷ [])) ∷ []) (Accepted ∷ []) []
    ∷ usual (plan twice (offer 0 1 (0 ∷ 0 ∷ 2 ∷ [])) ∷ []) (refused 15 1 ∷ []) []
    -- put before the first it would have to end before it starts: a rule of a point with itself, and false
    ∷ usual (plan twice (offer 0 1 (0 ∷ 0 ∷ 0 ∷ [])) ∷ []) (refuse 17 ∷ []) []
    -- each step has places of its own
    ∷ usual (plan pair (offer 0 2 (1 ∷ 0 ∷ 1 ∷ 1 ∷ [])) ∷ []) (Accepted ∷ []) []
    -- each resource has a line of its own: J stands in that of resource 0, and there is no place 1 in the other
    ∷ usual (J ∷ turns 1 ∷ turns 0 ∷ []) (Accepted ∷ refused 15 0 ∷ Accepted ∷ []) (earliest 4 5 ∷ [])
    -- a use hangs on its own step's start: the first job turns from 15 to 20, and the second then
    ∷ usual (plan pair (offer 0 2 (0 ∷ 1 ∷ 0 ∷ [])) ∷ turns 1 ∷ []) (Accepted ∷ Accepted ∷ []) (earliest 4 20 ∷ [])
    ∷ []

abbrev pub batches : List Case
batches =
    -- rule (e) goes by the newest job of the batch: A2 ends at 6, J at 20, and the next A2 no earlier than J
    usual (plan plant (offer_m 8) ∷ plan plant (job_j 8 0) ∷ plan plant (offer_m 8) ∷ []) (Accepted ∷ Accepted ∷ Accepted ∷ [])
    (earliest 2 6 ∷ earliest 5 20 ∷ earliest 7 20 ∷ [])
    -- of the batch: a newer job of another one stands between
    ∷ usual (plan plant (job_j 7 0) ∷ plan plant (offer_m 8) ∷ plan plant (offer_m 7) ∷ []) (Accepted ∷ Accepted ∷ Accepted ∷ []) (earliest 7 20 ∷ [])
    -- by a sent one too
    ∷ usual (plan plant (job_j 7 0) ∷ send 0 ∷ plan plant (offer_m 7) ∷ []) (Accepted ∷ Accepted ∷ Accepted ∷ []) (earliest 5 20 ∷ [])
    -- 0 is no batch, and 9 is one; another batch is another batch, by its high bits too
    ∷ usual (plan plant (job_j 0 0) ∷ plan plant (offer_m 0) ∷ []) (Accepted ∷ Accepted ∷ []) (earliest 5 6 ∷ [])
    ∷ usual (plan plant (job_j 9 0) ∷ plan plant (offer_m 9) ∷ []) (Accepted ∷ Accepted ∷ []) (earliest 5 20 ∷ [])
    ∷ usual (plan plant (job_j 7 0) ∷ plan plant (offer_m 8) ∷ plan plant (offer_m 16777223) ∷ []) (Accepted ∷ Accepted ∷ Accepted ∷ [])
    (earliest 5 6 ∷ earliest 7 6 ∷ [])
    ∷ []

-- 14: sixteen jobs, and no more
abbrev pub capacities : List Case
capacities = usual (times 17 moves) (times 16 Accepted ++ (refuse 14 ∷ [])) [] ∷ []

abbrev pub dispatching : List Case
dispatching =
    -- an allocation that outlasts its step: the last point is at 6, and the job retires at 35
    usual (plan long (offer 0 1 (0 ∷ 0 ∷ [])) ∷ send 0 ∷ clock 34 ∷ retire ∷ []) (Accepted ∷ Accepted ∷ Accepted ∷ refuse 21 ∷ []) []
    ∷ usual (plan long (offer 0 1 (0 ∷ 0 ∷ [])) ∷ send 0 ∷ clock 35 ∷ retire ∷ []) (Accepted ∷ Accepted ∷ Accepted ∷ Accepted ∷ []) []
    -- a second job, behind the first in the line, starts at 35; sent, it still does when the first has retired
    ∷ usual (plan long (offer 0 1 (0 ∷ 0 ∷ [])) ∷ plan long (offer 0 1 (0 ∷ 1 ∷ [])) ∷ send 0 ∷ clock 20 ∷ []) (times 4 Accepted) (earliest 3 35 ∷ [])
    ∷ usual (plan long (offer 0 1 (0 ∷ 0 ∷ [])) ∷ plan long (offer 0 1 (0 ∷ 1 ∷ [])) ∷ send 1 ∷ clock 35 ∷ retire ∷ []) (times 5 Accepted)
    (earliest 1 35 ∷ latest 1 35 ∷ [])
    -- a place is one of the list as it is: what was job 1 is job 0 when the first has retired
    ∷ usual (moves ∷ moves ∷ send 0 ∷ clock 15 ∷ retire ∷ send 1 ∷ send 0 ∷ []) (times 5 Accepted ++ (refuse 18 ∷ Accepted ∷ []))
    (earliest 1 20 ∷ latest 1 20 ∷ [])
    -- 18 past the list and of a sent job; 19 back and past H, also where 20 would come
    ∷ usual (J ∷ send 1 ∷ send 0 ∷ send 0 ∷ clock 5 ∷ clock 4 ∷ clock 1001 ∷ [])
    (Accepted ∷ refuse 18 ∷ Accepted ∷ refuse 18 ∷ Accepted ∷ refuse 19 ∷ refuse 19 ∷ []) []
    ∷ usual (J ∷ clock 1001 ∷ []) (Accepted ∷ refuse 19 ∷ []) []
    -- there is no job to send or to retire; a job that is not sent stays
    ∷ usual (send 0 ∷ retire ∷ J ∷ retire ∷ []) (refuse 18 ∷ refuse 21 ∷ Accepted ∷ refuse 21 ∷ []) []
    ∷ []

abbrev pub neighbours : List Case
neighbours =
    -- a use goes between two others: the one just before ends by its start, and it by the start of the one just after; all three stay in the line
    usual (crosses 0 0 ∷ crosses 1 1 ∷ crosses 1 1 ∷ crosses 3 3 ∷ []) (times 4 Accepted)
    (earliest 1 5 ∷ earliest 5 12 ∷ earliest 3 19 ∷ earliest 7 26 ∷ latest 1 978 ∷ latest 5 985 ∷ latest 3 992 ∷ latest 7 999 ∷ [])
    -- the rules of all of the offer's allocations count: behind in one line and before in the other does not go
    ∷ usual (crosses 0 0 ∷ crosses 1 0 ∷ crosses 0 1 ∷ []) (Accepted ∷ refuse 17 ∷ refuse 17 ∷ [])
    (earliest 1 5 ∷ latest 1 999 ∷ [])
    -- a step lasts its longest at most: a job of its batch ends at 55, so J does, and starts at 30
    ∷ usual (plan pair (offer 7 5 (times 5 0)) ∷ plan plant (job_j 7 0) ∷ []) (times 2 Accepted) (earliest 7 30 ∷ earliest 8 50 ∷ earliest 9 55 ∷ [])
    ∷ []

abbrev pub sendings : List Case
sendings =
    -- up to a place: the job there and those before it, and none behind
    usual (J ∷ moves ∷ send 0 ∷ []) (times 3 Accepted) (latest 1 5 ∷ latest 2 15 ∷ latest 3 20 ∷ earliest 4 5 ∷ latest 4 990 ∷ [])
    ∷ usual (moves ∷ moves ∷ send 1 ∷ send 0 ∷ send 1 ∷ []) (Accepted ∷ Accepted ∷ Accepted ∷ refuse 18 ∷ refuse 18 ∷ [])
    (latest 1 5 ∷ latest 2 15 ∷ latest 3 5 ∷ latest 4 15 ∷ [])
    -- each of a job's points: the second job stands before the first in the line and ends its use at 35, and steps may last longer than their shortest
    ∷ usual (stretches 2 (0 ∷ 1 ∷ 0 ∷ []) ∷ stretches 1 (1 ∷ 0 ∷ []) ∷ stretches 1 (0 ∷ []) ∷ send 0 ∷ send 1 ∷ send 2 ∷ []) (times 6 Accepted)
    (latest 1 15 ∷ latest 2 35 ∷ latest 3 45 ∷ latest 4 5 ∷ latest 5 15 ∷ latest 6 5 ∷ latest 7 15 ∷ [])
    -- the clock is for unsent jobs, each by its own first point
    ∷ usual (J ∷ moves ∷ clock 50 ∷ []) (times 3 Accepted) (earliest 1 55 ∷ earliest 3 70 ∷ earliest 4 55 ∷ earliest 5 65 ∷ [])
    ∷ usual (J ∷ moves ∷ send 0 ∷ clock 50 ∷ send 1 ∷ []) (times 5 Accepted) (latest 1 5 ∷ earliest 4 55 ∷ latest 4 55 ∷ [])
    -- 19: the clock may stay, and may come to H
    ∷ usual (clock 5 ∷ clock 5 ∷ clock 1000 ∷ clock 1000 ∷ []) (times 4 Accepted) []
    ∷ []

abbrev pub retirings : List Case
retirings =
    -- its uses in all lines: the first job's last point is at 6, its uses end at 12 and at 14
    usual (crosses 0 0 ∷ crosses 1 1 ∷ send 0 ∷ clock 13 ∷ retire ∷ clock 14 ∷ retire ∷ [])
    (Accepted ∷ Accepted ∷ Accepted ∷ Accepted ∷ refuse 21 ∷ Accepted ∷ Accepted ∷ []) (earliest 1 19 ∷ [])
    -- and of all its steps, all in a line: the second step starts at 15, and its uses end at 25 and at 45; then the line is empty
    ∷ usual (trails 0 1 ∷ send 0 ∷ clock 44 ∷ retire ∷ clock 45 ∷ retire ∷ trails 1 1 ∷ [])
    (Accepted ∷ Accepted ∷ Accepted ∷ refuse 21 ∷ Accepted ∷ Accepted ∷ refused 15 0 ∷ []) []
    -- those of the others stay, in their order, and go by their points' new numbers; a place counts what stays
    ∷ usual (J ∷ crosses 1 0 ∷ crosses 2 1 ∷ send 0 ∷ clock 20 ∷ retire ∷ crosses 3 2 ∷ crosses 2 3 ∷ crosses 1 1 ∷ [])
    (times 6 Accepted ++ (refused 15 0 ∷ refused 15 1 ∷ Accepted ∷ [])) (earliest 1 25 ∷ earliest 5 32 ∷ earliest 3 39 ∷ [])
    ∷ []

abbrev pub further_table : List Case
further_table = places ++ batches ++ capacities ++ dispatching ++ neighbours ++ sendings ++ retirings

-- ---- limits

pub record DraftCase : Type 0 where
  pub state : State
  pub offer : Offer
  pub ruling : Ruling

abbrev draft_ruling : Draft → Ruling
draft_ruling (Draft.stop c) = Refused c
draft_ruling (Draft.go s n rs) = Accepted

abbrev pub Drafts : DraftCase → Type 0
Drafts c = draft_ruling (drafted c.state c.offer) ≡ c.ruling

abbrev pub AllDraft : List DraftCase → Type 0
AllDraft [] = Unit {0}
AllDraft (c ∷ cs) = Drafts c × AllDraft cs

-- jobs of so many points, and a line of resource 0 that holds so many uses
abbrev state_with : List ℕ → ℕ → State
state_with points uses =
    with_lines (with_jobs (fresh (settings_from 1000 5)).state (map (λ (n : ℕ). new_job n 0 0) points))
    (times uses (record { point = 1; offset = 0; length = 1 }) ∷ times 15 [])

-- steps of 1 ms: one, with these allocations; two, without any
abbrev offer_with : List Allocation → Offer
offer_with ps = record { batch = 0; due = 0; steps = record { shortest = 1; longest = 1 } ∷ []; allocations = ps }

abbrev offer_of_two : Offer
offer_of_two = record { batch = 0; due = 0; steps = times 2 (record { shortest = 1; longest = 1 }); allocations = [] }

abbrev placed_at : ℕ → Allocation
placed_at p = record { resource = 0; place = p; step = 0; offset = 0; length = 1 }

abbrev pub draft_table : List DraftCase
draft_table =
    -- 14: 62 points and 2 are 64, 63 and 2 are not; with sixteen jobs there another is refused, whatever their points
    record { state = state_with (times 6 9 ++ times 4 2) 0; offer = offer_with []; ruling = Accepted }
    ∷ record { state = state_with (times 7 9) 0; offer = offer_with []; ruling = refuse 14 }
    ∷ record { state = state_with (times 15 2) 0; offer = offer_with []; ruling = Accepted }
    ∷ record { state = state_with (times 16 2) 0; offer = offer_with []; ruling = refuse 14 }
    -- the points are the offer's own: 61 and 3 are 64, 62 and 3 are not
    ∷ record { state = state_with (times 6 9 ++ (7 ∷ [])) 0; offer = offer_of_two; ruling = Accepted }
    ∷ record { state = state_with (times 6 9 ++ (8 ∷ [])) 0; offer = offer_of_two; ruling = refuse 14 }
    -- 14 comes before 15
    ∷ record { state = state_with (times 16 2) 0; offer = offer_with (placed_at 1 ∷ []); ruling = refuse 14 }
    -- 16: a line holds 32; the offer's own count
    ∷ record { state = state_with (2 ∷ []) 31; offer = offer_with (placed_at 31 ∷ []); ruling = Accepted }
    ∷ record { state = state_with (2 ∷ []) 31; offer = offer_with (placed_at 0 ∷ placed_at 0 ∷ []); ruling = refused 16 1 }
    ∷ record { state = state_with (2 ∷ []) 32; offer = offer_with (placed_at 32 ∷ []); ruling = refused 16 0 }
    -- of one allocation 15 comes before 16; of two the first's 16 before the second's 15
    ∷ record { state = state_with (2 ∷ []) 32; offer = offer_with (placed_at 33 ∷ []); ruling = refused 15 0 }
    ∷ record { state = state_with (2 ∷ []) 32; offer = offer_with (placed_at 0 ∷ placed_at 34 ∷ []); ruling = refused 16 0 }
    ∷ []
