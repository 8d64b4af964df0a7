-- What stands in the catalog's lists at a cell, and at a constraint and a row, for those who walk them. Assumes nothing.
use Prim.Native.Nat.{ℕ, ◌+◌, ◌*◌, ◌/◌, ◌%◌, ◌<◌}
use native.Mathlib.Omega.{arith}
use mathlib.Core.Path.{◌≡◌, sym, ap, ap₂, ◌∙◌}
use mathlib.Core.List.{List}
use borrow.Author.Tests.{lt-ltb}
use lib.Dec.{ltb}
use lib.ListN.{length, get_or}
use Rattle.finite.specs.Finite.{first_from}
use Rattle.finite.proofs.Bools.{cond-true}
use Rattle.finite.proofs.Tables.{length-tab, tab-at}
use Rattle.model.specs.Scheme.{Scheme}
use Rattle.model.specs.Database.{Database}
use Rattle.model.specs.Rounds.{leads}
use Rattle.catalog.specs.Catalog.{next_of, nexts, demanded_first, firsts, next_in, first_in, Links, Demands}
use Rattle.catalog.proofs.PartLaws.{part_at}

module _ (D : Database) (next : List ℕ) (e : next ≡ nexts D) where
  pub next-long : length next ≡ 4096
  next-long = ap length e ∙ length-tab 4096 _

  pub next-at : (r c : ℕ) → r < 512 → c < 8 → get_or next (8 * r + c) 0 ≡ next_of D r c
  next-at r c l q =
      let a : (8 * r + c) / 8 ≡ r = omega arith in
      let b : (8 * r + c) % 8 ≡ c = omega arith in
      ap (λ (xs : List ℕ). get_or xs (8 * r + c) 0) e ∙ tab-at 0 4096 (λ x. next_of D (x / 8) (x % 8)) (8 * r + c) (omega arith) ∙ ap₂ (next_of D) a b

module _ (S : Scheme) (D : Database) (first : List ℕ) (e : first ≡ firsts S D) where
  pub first-long : length first ≡ 8192
  first-long = ap length e ∙ length-tab 8192 _

  pub first-demanded : (i s : ℕ) → i < 16 → s < 512 → i < S.constraints → get_or first (512 * i + s) 0 ≡ first_from 512 (leads D (S.constraint i) s) 0
  unfolding demanded_first
  first-demanded i s l q h =
      let a : (512 * i + s) / 512 ≡ i = omega arith in
      let b : (512 * i + s) % 512 ≡ s = omega arith in
      ap (λ (xs : List ℕ). get_or xs (512 * i + s) 0) e ∙ tab-at 0 8192 (λ x. demanded_first S D (x / 512) (x % 512)) (512 * i + s) (omega arith)
      ∙ ap₂ (demanded_first S D) a b ∙ cond-true (ltb i S.constraints) _ 512 (lt-ltb i S.constraints h)

-- ---- as the code reads them

module _ (D : Database) (catalog : List ℕ) (l : Links D catalog) where
  pub link_at : (r c n : ℕ) → r < 512 → c < 8 → n ≡ get_or catalog (8 * r + c) 0 → n ≡ next_of D r c
  link_at r c n h q e =
      let z : 8 * r + c ≡ 0 + (8 * r + c) = omega arith in
      e ∙ ap (λ (x : ℕ). get_or catalog x 0) z ∙ sym (part_at 0 4096 catalog (8 * r + c) (omega arith)) ∙ next-at D (next_in catalog) l.next-is r c h q

module _ (S : Scheme) (D : Database) (catalog : List ℕ) (l : Demands S D catalog) where
  pub demand-at : (i s n : ℕ) → i < 16 → s < 512 → n ≡ get_or catalog (4096 + 512 * i + s) 0 → i < S.constraints
      → n ≡ first_from 512 (leads D (S.constraint i) s) 0
  demand-at i s n h q e b =
      let z : 4096 + 512 * i + s ≡ 4096 + (512 * i + s) = omega arith in
      e ∙ ap (λ (x : ℕ). get_or catalog x 0) z ∙ sym (part_at 4096 8192 catalog (512 * i + s) (omega arith))
      ∙ first-demanded S D (first_in catalog) l.first-is i s h q b
