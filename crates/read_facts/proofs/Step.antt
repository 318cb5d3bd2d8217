-- One step of the regression against one step forward. Assumes nothing.
-- The idea: `regressed a l` holds in σ exactly when a's needs hold in σ and l holds in `after a σ`, unless a undoes a fact of l, and
-- then l holds after a from no state at all. Each fact is one of three kinds: made true, made false, or left as it was.
--   in_strike, of_strike, join_left, join_right, join_cases   a fact of a struck and of a joined mask
--   forward    what must hold before is enough
--   backward   and it is needed
--   undone     11: no state gets past a step that undoes what is needed (where the action makes no fact both ways)
--   no_clash   12: no state has a fact both ways
use Prim.Native.Nat.{ℕ}
use mathlib.Core.Path.{◌≡◌, refl, sym, ap₂, ◌∙◌}
use mathlib.Core.Bool.{Bool, true, false, not, ◌&&◌}
use Rattle.base_masks.specs.Mask.{has, share, join, strike}
use Rattle.base_masks.proofs.MaskLaws.{has_join, has_strike, share_false, apart}
use Rattle.base_rulings.proofs.RulingLaws.{neither}
use Rattle.read_facts.specs.declared.Literals.{Literals}
use Rattle.read_facts.specs.declared.Action.{Action}
use Rattle.read_facts.specs.Regression.{undoes, regressed}
use Rattle.read_facts.specs.Forward.{FullState, Holds, after}
use Rattle.read_facts.proofs.Bools.{clash, or_left, or_right, or_cases, and_not}

-- ---- a fact of the mask `join (strike x m) n`: struck from x what m has, then n added

pub in_strike : (x m k : ℕ) → has x k ≡ true → has m k ≡ false → has (strike x m) k ≡ true
in_strike x m k p q = has_strike x m k ∙ ap₂ (λ (u v : Bool). u && not v) p q

pub of_strike : (x m k : ℕ) → has (strike x m) k ≡ true → (has x k ≡ true) × (has m k ≡ false)
of_strike x m k e = and_not (has x k) (has m k) (sym (has_strike x m k) ∙ e)

pub join_left : (a b k : ℕ) → has a k ≡ true → has (join a b) k ≡ true
join_left a b k p = has_join a b k ∙ or_left (has a k) (has b k) p

pub join_right : (a b k : ℕ) → has b k ≡ true → has (join a b) k ≡ true
join_right a b k p = has_join a b k ∙ or_right (has a k) (has b k) p

pub join_cases : {A : Type 0} (a b k : ℕ) → has (join a b) k ≡ true → (has a k ≡ true → A) → (has b k ≡ true → A) → A
join_cases a b k e f g = or_cases (has a k) (has b k) (sym (has_join a b k) ∙ e) f g

module _ (a : Action) (σ : FullState) where
  after_true : (k : ℕ) → has a.makes.pos k ≡ true → after a σ k ≡ true
  unfolding after
  after_true k p = rw p

  after_false : (k : ℕ) → has a.makes.pos k ≡ false → has a.makes.neg k ≡ true → after a σ k ≡ false
  unfolding after
  after_false k p q = rw (p, q)

  after_same : (k : ℕ) → has a.makes.pos k ≡ false → has a.makes.neg k ≡ false → after a σ k ≡ σ k
  unfolding after
  after_same k p q = rw (p, q)

  pub forward : (l : Literals) → undoes a l ≡ false → Holds (regressed a l) σ → Holds a.needs σ × Holds l (after a σ)
  unfolding undoes regressed
  forward l u h =
      let n = neither (share l.pos a.makes.neg) (share l.neg a.makes.pos) u in (
        (λ k p. h.0 k (join_right _ _ k p), λ k p. h.1 k (join_right _ _ k p)),
        (
          λ k p. keep_true k p (has a.makes.pos k) refl (has a.makes.neg k) refl (share_false l.pos a.makes.neg n.0 k p),
          λ k p. keep_false k p (has a.makes.pos k) refl (has a.makes.neg k) refl (share_false l.neg a.makes.pos n.1 k p),
        ),
      )
    where
      keep_true :
          (k : ℕ) → has l.pos k ≡ true → (x : Bool) → has a.makes.pos k ≡ x → (y : Bool) → has a.makes.neg k ≡ y
          → (has a.makes.neg k ≡ true → ⊥) → after a σ k ≡ true
      keep_true k p true e y g never = after_true k e
      keep_true k p false e true g never = absurd (never g)
      keep_true k p false e false g never = after_same k e g ∙ h.0 k (join_left _ _ k (in_strike l.pos a.makes.pos k p e))

      keep_false :
          (k : ℕ) → has l.neg k ≡ true → (x : Bool) → has a.makes.pos k ≡ x → (y : Bool) → has a.makes.neg k ≡ y
          → (has a.makes.pos k ≡ true → ⊥) → after a σ k ≡ false
      keep_false k p true e y g never = absurd (never e)
      keep_false k p false e true g never = after_false k e g
      keep_false k p false e false g never = after_same k e g ∙ h.1 k (join_left _ _ k (in_strike l.neg a.makes.neg k p g))

  pub backward : (l : Literals) → Holds a.needs σ → Holds l (after a σ) → Holds (regressed a l) σ
  unfolding regressed
  backward l n h = (
    λ k p. join_cases (strike l.pos a.makes.pos) a.needs.pos k p
        (λ q. let m = of_strike l.pos a.makes.pos k q in was_true k m.0 m.1 (has a.makes.neg k) refl)
        (n.0 k),
    λ k p. join_cases (strike l.neg a.makes.neg) a.needs.neg k p
        (λ q. let m = of_strike l.neg a.makes.neg k q in was_false k m.0 m.1 (has a.makes.pos k) refl)
        (n.1 k),
  )
    where
      was_true : (k : ℕ) → has l.pos k ≡ true → has a.makes.pos k ≡ false → (y : Bool) → has a.makes.neg k ≡ y → σ k ≡ true
      was_true k p m true g = clash (h.0 k p) (after_false k m g)
      was_true k p m false g = sym (after_same k m g) ∙ h.0 k p

      was_false : (k : ℕ) → has l.neg k ≡ true → has a.makes.neg k ≡ false → (x : Bool) → has a.makes.pos k ≡ x → σ k ≡ false
      was_false k p m true g = clash (after_true k g) (h.1 k p)
      was_false k p m false g = sym (after_same k g m) ∙ h.1 k p

  pub undone : (l : Literals) → share a.makes.pos a.makes.neg ≡ false → Holds l (after a σ) → undoes a l ≡ false
  unfolding undoes
  undone l fair h =
      rw (
        apart l.pos a.makes.neg (λ k p m. not_made k p m (has a.makes.pos k) refl),
        apart l.neg a.makes.pos (λ k p m. clash (after_true k m) (h.1 k p)),
      )
    where
      not_made : (k : ℕ) → has l.pos k ≡ true → has a.makes.neg k ≡ true → (x : Bool) → has a.makes.pos k ≡ x → ⊥
      not_made k p m true e = share_false a.makes.pos a.makes.neg fair k e m
      not_made k p m false e = clash (h.0 k p) (after_false k e m)

pub no_clash : (l : Literals) (σ : FullState) → Holds l σ → share l.pos l.neg ≡ false
no_clash l σ h = apart l.pos l.neg (λ k p q. clash (h.0 k p) (h.1 k q))
