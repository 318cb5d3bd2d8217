-- What an offer comes to before timetables are looked at keeps the limits: 14, 15 and 16 see to it.
--   PlacedSized n q     the lines that placing comes to are sized;  placed_sized shows it
--   DraftSized s q      a draft stops, or its state is within the limits;  drafted_sized shows it, where s is
use mathlib.Core.Path.{◌≡◌, refl, ◌∙◌}
use mathlib.Core.Bool.{Bool, true, false, cond}
use mathlib.Core.List.{List, [], ◌∷◌, ◌++◌}
use Prim.Native.Nat.{ℕ, zero, suc, ◌+◌, ◌≤◌, ◌<◌}
use native.Mathlib.Omega.{arith}
use lib.ListN.{length, length-append, length-set}
use Rattle.base_rulings.specs.Answer.{cause}
use Rattle.spec_plain.specs.Limits.{most_jobs, most_points, resources, most_uses}
use Rattle.spec_plain.specs.declared.Settings.{Settings}
use Rattle.spec_plain.specs.declared.Allocation.{Allocation}
use Rattle.spec_plain.specs.declared.Rule.{Rule}
use Rattle.spec_plain.specs.declared.Use.{Use}
use Rattle.spec_plain.specs.Plain.{
  Offer,
  State,
  Placed,
  Draft,
  total,
  live_count,
  full,
  new_points,
  job_from,
  used_from,
  inserted,
  placed,
  joining,
  drafted,
}
use Rattle.part_lines.specs.Placing.{line_for, lines_with}
use Rattle.part_lines.proofs.Placing.{rules_for, placed_keeps}
use Rattle.part_lines.proofs.LineLaws.{length_inserted}
use Rattle.part_lines.proofs.DraftLaws.{within}
use Rattle.base_lists.specs.All.{All}
use Rattle.base_lists.proofs.All.{all_get, all_append, all_set, all_map}
use Rattle.part_sound.specs.Sound.{SizedJob, SizedUse}
use Rattle.theorem_demands.proofs.Jobs.{total_append}
use Rattle.theorem_demands.proofs.Sent.{first_append}
use Rattle.theorem_agreement.proofs.Parts.{SizedLine, Limits}
use Rattle.part_offered.specs.Sized.{SizedAllocation, SizedOffer}

-- ---- lines

module _ (n m : ℕ) (le : n ≤ m) where
  use_wider : (u : Use) → SizedUse n u → SizedUse m u
  use_wider u s =
      let hi = s.live in
      record { not_origin = s.not_origin; live = omega (arith, hi, le); offset = s.offset; some = s.some; length = s.length }

  line_wider : (us : List Use) → SizedLine n us → SizedLine m us
  line_wider us s = record { few = s.few; uses = all_map (SizedUse n) (SizedUse m) use_wider us s.uses }

inserted_sized : (n p : ℕ) (u : Use) (us : List Use) → SizedUse n u → All (SizedUse n) us → All (SizedUse n) (inserted p u us)
unfolding inserted
inserted_sized n zero u us s a = (s, a)
inserted_sized n (suc p) u [] s a = (s, tt)
inserted_sized n (suc p) u (x ∷ us) s a = (a.0, inserted_sized n p u us s a.1)

-- ---- placing

unfoldable pub PlacedSized : ℕ → Placed → Type 0
PlacedSized n (Placed.stop c) = Unit {0}
PlacedSized n (Placed.done ls rs) = (length ls ≡ resources) × All (SizedLine n) ls

-- what holds of the allocations left and the lines so far; k is the number of the job's steps
abbrev BeforeSized : ℕ → ℕ → List Allocation → List (List Use) → List Rule → Type 0
BeforeSized n k ps ls rs = All (SizedAllocation k) ps × (length ls ≡ resources) × All (SizedLine n) ls

-- x is p0 of the job, and g the board's settings
placed_sized :
    (g : Settings) (n x k i : ℕ) (ps : List Allocation) (ls : List (List Use)) (rs : List Rule) → 0 < x → x + k ≤ suc n
    → All (SizedAllocation k) ps → length ls ≡ resources → All (SizedLine n) ls → PlacedSized n (placed g x i ps ls rs)
unfolding PlacedSized used_from
placed_sized g n x k i ps ls rs z le a e b =
    placed_keeps g x (BeforeSized n k) (PlacedSized n) (λ c. (tt, tt)) (λ ks qs h. (h.1, h.2)) next i ps ls rs (a, e, b)
  where
    use_sized : (p : Allocation) → SizedAllocation k p → SizedUse n (used_from x p)
    use_sized p s =
        let at = s.step in
        let r = s.readable in
        record { not_origin = omega arith; live = omega (arith, at); offset = r.offset; some = s.some; length = r.length }

    next :
        (p : Allocation) (ps : List Allocation) (ls : List (List Use)) (rs : List Rule) → p.place ≤ length (line_for ls p) → length (line_for ls p) < most_uses
        → BeforeSized n k (p ∷ ps) ls rs → BeforeSized n k ps (lines_with x ls p) (rs ++ rules_for g x ls p)
    next p ps ls rs fits room h =
        let line = line_for ls p in
        let longer = inserted p.place (used_from x p) line in
        let sized : SizedLine n line = all_get (SizedLine n) ls p.resource [] h.2 (record { few = omega arith; uses = tt }) in (
          h.0.1,
          length-set ls p.resource longer ∙ h.1,
          all_set (SizedLine n) ls p.resource longer h.2
              (record {
                few = omega (arith, length_inserted p.place (used_from x p) line);
                uses = inserted_sized n p.place (used_from x p) line (use_sized p h.0.0) sized.uses;
              }),
        )

-- ---- drafts

unfoldable pub DraftSized : State → Draft → Type 0
DraftSized s (Draft.stop c) = Unit {0}
DraftSized s (Draft.go next n rs) = Limits next × (next.settings ≡ s.settings)

module _ {s : State} (p : Limits s) (o : Offer) (sized : SizedOffer s.settings.horizon o) where
  joined_total : total (s.jobs ++ (job_from o ∷ [])) ≡ total s.jobs + new_points o
  unfolding total
  joined_total = omega (arith, total_append s.jobs (job_from o ∷ []))

  joining_sized :
      (q : Placed) → length s.jobs < most_jobs → total s.jobs + new_points o ≤ most_points → PlacedSized (total s.jobs + new_points o) q
      → DraftSized s (joining s o q)
  unfolding DraftSized joining PlacedSized
  joining_sized (Placed.stop c) few points a = tt
  joining_sized (Placed.done ls rs) few points a =
      let lo = sized.some in
      let hi = sized.few in
      let job : SizedJob s.settings.horizon (job_from o) = record { least = omega (arith, lo); most = omega (arith, hi); due = sized.due } in (
        record {
          horizon = p.horizon;
          lead = p.lead;
          clock = p.clock;
          jobs = omega (arith, length-append s.jobs (job_from o ∷ []));
          sizes = all_append (SizedJob s.settings.horizon) s.jobs (job_from o ∷ []) p.sizes (job, tt);
          points = omega (arith, joined_total);
          sixteen = a.0;
          lines = rw joined_total a.1;
          sent_first = first_append s.jobs (job_from o) refl p.sent_first;
        },
        refl,
      )

  pub drafted_sized : DraftSized s (drafted s o)
  unfolding DraftSized drafted live_count
  drafted_sized = go (full s (new_points o)) refl
    where
      points : ℕ
      points = total s.jobs + new_points o

      go : (b : Bool) → full s (new_points o) ≡ b
          → DraftSized s (cond b (Draft.stop (cause 14 0)) (joining s o (placed s.settings (live_count s) 0 o.allocations s.lines [])))
      go true e = tt
      go false e =
          let room = within s (new_points o) e in
          joining_sized (placed s.settings (live_count s) 0 o.allocations s.lines []) room.0 room.1
          (placed_sized s.settings points (live_count s) (length o.steps) 0 o.allocations s.lines [] (omega arith) (omega arith)
          sized.allocations p.sixteen
          (all_map (SizedLine (total s.jobs)) (SizedLine points) (line_wider (total s.jobs) points (omega arith)) s.lines p.lines))
