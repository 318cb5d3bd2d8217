-- Offers that were read.
--   offer_in h   the offer that is held in h
use Rattle.spec_plain.specs.Plain.{Offer}
use Rattle.part_allocations.specs.declared.held.HeldOffer.{HeldOffer}

abbrev pub offer_in : HeldOffer → Offer
offer_in h = record { batch = h.batch; due = h.due; steps = h.steps.now; allocations = h.allocations.list.now }
