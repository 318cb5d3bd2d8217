-- The answer of a comparison and demand 3 (specs/Compared).
--   live_to, live_of   as many points live with the origin as beside it
--   answer_right       of any two sound boards and any books beside them
--   compares_right     the theorem after any two lists of calls;  compares_meant: of any two sound boards
use Prim.Native.Nat.{suc}
use mathlib.Core.Path.{◌≡◌, sym, ◌∙◌, ap}
use mathlib.Core.Logic.{◌↔◌}
use native.Mathlib.Omega.{arith}
use Rattle.spec_plain.specs.Plain.{live_count}
use Rattle.spec_rulebook.specs.Book.{Book}
use Rattle.part_boardwords.specs.Board.{Board}
use Rattle.part_sound.specs.Sound.{Sound, points_of}
use Rattle.part_sound.proofs.Soundness.{sound_of}
use Rattle.log_tables.specs.declared.Compared.TheVariants.{Equal}
use Rattle.log_tables.specs.Compared.{compared}
use Rattle.log_tables.proofs.Equal.{equal_exactly}
use Rattle.theorem_demands.specs.Beside.{Sim}
use Rattle.theorem_demands.specs.Cases.{SameTimetables}
use Rattle.theorem_agreement.specs.Abstract.{Shaped, live_points, abstract_of, book_of}
use Rattle.theorem_agreement.specs.Compared.{ComparesRight, ComparesMeant}
use Rattle.theorem_agreement.proofs.Books.{sound_sim}
use Rattle.theorem_agreement.proofs.Exact.{sim_same}
use Rattle.theorem_agreement.proofs.Lists.{agreement}
use Rattle.theorem_agreement.proofs.Demand3.{lists_right, fed}

module _ (b d : Board) where
  pub live_to : points_of b ≡ points_of d → live_points b ≡ live_points d
  unfolding live_count
  live_to e = ap suc e

  pub live_of : live_points b ≡ live_points d → points_of b ≡ points_of d
  unfolding live_count
  live_of e = omega (arith, e)

module _ (b d : Board) (w : Shaped b) (x : Shaped d) (s : Sound b) (t : Sound d) where
  answer_right :
      {k j : Book} → Sim (abstract_of b) k → Sim (abstract_of d) j
      → (compared b d ≡ Equal) ↔ ((live_points b ≡ live_points d) × SameTimetables k j)
  answer_right m n =
      let equal = equal_exactly b d (sound_of b w.lines s) (sound_of d x.lines t) (w.gaps ∙ sym x.gaps) in (
        λ e. let same = live_to b d (equal.0 e).0 in (same, (lists_right b d w x s t same m n).0 (equal.0 e).1),
        λ u. equal.1 (live_of b d u.0, (lists_right b d w x s t u.0 m n).1 u.1),
      )

pub compares_right : ComparesRight
compares_right s t good fine cs ds =
    let one = agreement s good cs in
    let other = agreement t fine ds in
    fed s good cs _ (λ k m. fed t fine ds _ (λ j n. answer_right _ _ one.shaped other.shaped one.sound other.sound m n))

pub compares_meant : ComparesMeant
compares_meant b d w x s t =
    let m = sound_sim b w s in
    let n = sound_sim d x t in
    let right = answer_right b d w x s t m n in
    let one = sim_same b (book_of b) m in
    let other = sim_same d (book_of d) n in (
      λ e. let q = right.0 e in (q.0, λ u. (λ y. (other u).1 ((q.1 u).0 ((one u).0 y)), λ y. (one u).1 ((q.1 u).1 ((other u).0 y)))),
      λ q. right.1 (q.0, λ u. (λ y. (other u).0 ((q.1 u).0 ((one u).1 y)), λ y. (one u).0 ((q.1 u).1 ((other u).1 y)))),
    )
