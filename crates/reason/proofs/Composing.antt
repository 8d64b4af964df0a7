-- A row's sentence, link by link: one link more, the row that the links lead back to, the whole, and how long it is. Assumes nothing.
use Prim.Native.Nat.{ℕ, zero, suc, ◌+◌, ◌*◌, ◌-◌, ◌≤◌, ◌<◌}
use native.Mathlib.Omega.{arith}
use mathlib.Core.Path.{◌≡◌, refl, sym, ap, ap₂, subst, ◌∙◌}
use mathlib.Core.Bool.{true}
use mathlib.Core.List.{List, ◌++◌}
use lib.ListN.{length, length-append}
use Rattle.finite.specs.Finite.{any}
use Rattle.finite.specs.Decimal.{decimal, spaced}
use Rattle.finite.specs.Writing.{Wrote}
use Rattle.finite.proofs.Decimals.{decimal-within}
use Rattle.finite.proofs.Writing.{behind, wrote_as, wrote_none}
use Rattle.model.specs.Scheme.{Scheme}
use Rattle.model.specs.Database.{Database}
use Rattle.model.specs.Rounds.{level}
use Rattle.model.specs.Holding.{Holding}
use Rattle.model.specs.Runs.{cached_for, reload_levels}
use Rattle.model.specs.Reason.{has_origin, origin_at, origin_count, is_link, last_constraint, last_row, chain_by, lowest_held, distance, reason_for}
use Rattle.model.specs.Sentence.{row_word, link_text, origin_text, chain_text, sentence, reason_text}
use Rattle.model.proofs.ReasonLaws.{reload-levels, constraint-within, row_within, row-level, cached-level}
use Rattle.reason.specs.Links.{Graded, root_by, links_text}
use Rattle.reason.proofs.WordingLaws.{link-short, origin-short, chain-parts}

-- ---- the levels of a reload

pub graded-reload : (S : Scheme) (D : Database) (h : Holding) (L : List ℕ) → L ≡ reload_levels S D h → Graded S D L
graded-reload S D h L e = subst (Graded S D) (sym e) (record { rows = (reload-levels S D h).rows; link = (reload-levels S D h).link })

-- ---- one link more: row r is n constraints away from what is held

module _ (S : Scheme) (D : Database) (L : List ℕ) where
  root-step : (n r : ℕ) → (n ≡ 0 → ⊥) → root_by S D L (n - 1) (last_row S D L (n - 1) r) ≡ root_by S D L n r
  unfolding root_by
  root-step zero r o = absurd (o refl)
  root-step (suc n) r o = let e : suc n - 1 ≡ n = omega arith in ap (λ (m : ℕ). root_by S D L m (last_row S D L m r)) e

  links-step : (n r : ℕ) → (n ≡ 0 → ⊥) →
      link_text (last_constraint S D L (n - 1) r) (last_row S D L (n - 1) r) ++ links_text S D L (n - 1) (last_row S D L (n - 1) r) ≡ links_text S D L n r
  unfolding links_text
  links-step zero r o = absurd (o refl)
  links-step (suc n) r o =
      let e : suc n - 1 ≡ n = omega arith in
      ap (λ (m : ℕ). link_text (last_constraint S D L m r) (last_row S D L m r) ++ links_text S D L m (last_row S D L m r)) e

  -- n is 0: there is no link
  pub root_none : (n r : ℕ) → n ≡ 0 → r ≡ root_by S D L n r
  unfolding root_by
  root_none n r e = ap (λ (m : ℕ). root_by S D L m r) (sym e)

  pub links-none : (n r : ℕ) (o : List ℕ) (at : ℕ) → n ≡ 0 → Wrote o o at at (links_text S D L n r)
  unfolding links_text
  links-none n r o at e = wrote_as _ _ _ _ _ _ _ refl (ap (λ (m : ℕ). links_text S D L m r) (sym e)) (wrote_none o at)

-- n isn't 0, and constraint i and row s are the last link
module _ (S : Scheme) (D : Database) (L : List ℕ) (n r : ℕ) (o : (n ≡ 0 → ⊥)) (i s : ℕ) (a : i ≡ last_constraint S D L (n - 1) r) (b : s ≡ last_row S D L (n - 1) r) where
  pub root-more : (t : ℕ) → t ≡ root_by S D L (n - 1) s → t ≡ root_by S D L n r
  root-more t h = h ∙ ap (root_by S D L (n - 1)) b ∙ root-step S D L n r o

  pub links-more : (x y z : List ℕ) (at to end : ℕ) → Wrote x y at to (link_text i s) → Wrote y z to end (links_text S D L (n - 1) s) →
      Wrote x z at end (links_text S D L n r)
  links-more x y z at to end u w =
      wrote_as _ _ _ _ _ _ _ refl
      (ap₂ ◌++◌ (ap₂ link_text a b) (ap (links_text S D L (n - 1)) b) ∙ links-step S D L n r o)
      (behind u w)

  module _ (g : Graded S D L) (e : level L r ≡ n + 2) where
    some : any S.constraints (λ x. any D.size (is_link S D L (n - 1) r x)) ≡ true
    some = g.link r (n - 1) (omega arith)

    pub constraint-below : i < S.constraints
    constraint-below = omega (arith, a, constraint-within S D L (n - 1) r some)

    pub row_below : D.size ≡ 512 → s < 512
    row_below z = omega (arith, b, row_within S D L (n - 1) r some)

    pub row-nearer : level L s ≡ n - 1 + 2
    row-nearer = let e : suc (suc (n - 1)) ≡ n - 1 + 2 = omega arith in ap (level L) b ∙ row-level S D L (n - 1) r some ∙ e

-- ---- the row that the links lead back to

module _ (S : Scheme) (D : Database) (L : List ℕ) (g : Graded S D L) where
  root-level : (n r : ℕ) → level L r ≡ suc (suc n) → level L (root_by S D L n r) ≡ 2
  unfolding root_by
  root-level zero r e = e
  root-level (suc n) r e = root-level n (last_row S D L n r) (row-level S D L n r (g.link r n e))

  pub root-held : (n r : ℕ) → level L r ≡ n + 2 → level L (root_by S D L n r) ≡ 2
  root-held n r e = root-level n r (omega arith)

  -- how long the links are in words
  links-short : S.constraints ≤ 16 → D.size ≡ 512 → (n r : ℕ) → level L r ≡ suc (suc n) → length (links_text S D L n r) ≤ 30 * n
  unfolding links_text
  links-short few z zero r e = omega arith
  links-short few z (suc n) r e =
      let some = g.link r n e in
      let a = link-short (last_constraint S D L n r) (last_row S D L n r) (omega (arith, constraint-within S D L n r some)) (omega (arith, row_within S D L n r some)) in
      let b = links-short few z n (last_row S D L n r) (row-level S D L n r some) in
      omega (arith, length-append (link_text (last_constraint S D L n r) (last_row S D L n r)) (links_text S D L n (last_row S D L n r)))

-- ---- the whole: L are the levels of a reload, and row r is cached

module _ (S : Scheme) (D : Database) (h : Holding) (L : List ℕ) (f : L ≡ reload_levels S D h) (r : ℕ) (c : cached_for S D h r ≡ true) where
  at_level : level L r ≡ suc (suc (distance S D h r))
  at_level = ap (λ (K : List ℕ). level K r) f ∙ cached-level S D h r c

  pub two_up : 2 ≤ level L r
  two_up = omega (arith, at_level)

  pub away : (n : ℕ) → n ≡ level L r - 2 → level L r ≡ n + 2
  away n e = omega (arith, at_level)

  pub few-links : D.size ≡ 512 → (n : ℕ) → n ≡ level L r - 2 → n < 512
  few-links z n e = omega (arith, at_level, (reload-levels S D h).bound r, ap (λ (K : List ℕ). level K r) f)

  pub root-has : D.size ≡ 512 → (n t : ℕ) → n ≡ level L r - 2 → t ≡ root_by S D L n r → any (origin_count h) (λ i. has_origin S D t (origin_at h i)) ≡ true
  root-has z n t e q =
      (reload-levels S D h).some t
      (sym (ap (λ (K : List ℕ). level K t) f) ∙ ap (level L) q ∙ root-held S D L (graded-reload S D h L f) n r (away n e))

  pub root-within : D.size ≡ 512 → (n t : ℕ) → n ≡ level L r - 2 → t ≡ root_by S D L n r → t < 512
  root-within z n t e q =
      let g = graded-reload S D h L f in
      let l : 0 < level L t = omega (arith, ap (level L) q, root-held S D L g n r (away n e)) in
      omega (arith, D.finite t (g.rows t l))

  -- the row, its links, and what the chain ends with
  pub reason-written : (n t z₁ z₂ z₃ z₄ : ℕ) (w₀ w₁ w₂ w₃ w₄ v : List ℕ) → n ≡ level L r - 2 → t ≡ root_by S D L n r → v ≡ origin_text (lowest_held S D h t) →
      Wrote w₀ w₁ 0 z₁ row_word → Wrote w₁ w₂ z₁ z₂ (spaced r) → Wrote w₂ w₃ z₂ z₃ (links_text S D L n r) → Wrote w₃ w₄ z₃ z₄ v →
      Wrote w₀ w₄ 0 z₄ (reason_text S D h r)
  unfolding reason_text sentence reason_for
  reason-written n t z₁ z₂ z₃ z₄ w₀ w₁ w₂ w₃ w₄ v e q d a₁ a₂ a₃ a₄ =
      wrote_as _ _ _ _ _ _ _ refl (ap (λ (xs : List ℕ). row_word ++ (spaced r ++ xs)) parts) (behind a₁ (behind a₂ (behind a₃ a₄)))
    where
      m : n ≡ distance S D h r
      m = omega (arith, at_level)

      parts : links_text S D L n r ++ v ≡ chain_text (chain_by S D (reload_levels S D h) (lowest_held S D h) (distance S D h r) r)
      parts =
          ap (λ (xs : List ℕ). links_text S D L n r ++ xs) (d ∙ ap (λ (x : ℕ). origin_text (lowest_held S D h x)) q) ∙
          sym (chain-parts S D L (lowest_held S D h) n r) ∙
          ap₂ (λ (K : List ℕ) (x : ℕ). chain_text (chain_by S D K (lowest_held S D h) x r)) f m

-- ---- how long it is

-- the sentence of a cached row, of a design with no more constraints than the largest count
pub reason-short : (S : Scheme) (D : Database) (h : Holding) (r : ℕ) → cached_for S D h r ≡ true → D.size ≡ 512 → S.constraints ≤ 16 →
    length (reason_text S D h r) ≤ 16384
unfolding reason_text sentence reason_for
reason-short S D h r c z few =
    let L = reload_levels S D h in
    let n = distance S D h r in
    let g = graded-reload S D h L refl in
    let e = at_level S D h L refl r c in
    let o = lowest_held S D h in
    let l = links_text S D L n r in
    let t = origin_text (o (root_by S D L n r)) in
    let live = D.finite r (g.rows r (omega (arith, e))) in
    rw (chain-parts S D L o n r)
    (omega (
      arith,
      length-append (decimal r) (l ++ t),
      length-append l t,
      decimal-within 2 r (omega arith),
      links-short S D L g few z n r e,
      few-links S D h L refl r c z n (omega (arith, e)),
      origin-short (o (root_by S D L n r)),
    ))
