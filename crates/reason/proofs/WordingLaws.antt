-- How long a link is in words, and a row's sentence in parts: the row, its links, and what the chain ends with. Assumes nothing.
use Prim.Native.Nat.{ℕ, zero, suc, ◌+◌, ◌*◌, ◌≤◌, ◌<◌}
use native.Mathlib.Omega.{arith}
use mathlib.Core.Path.{◌≡◌, refl, sym, ap, ap₂, ◌∙◌}
use mathlib.Core.List.{List, [], ◌++◌, append_assoc}
use mathlib.Core.Logic.{⊎_elim}
use borrow.Author.Tests.{eq-eqb, ne_eqb}
use lib.Dec.{eqb}
use lib.ListN.{length, length-append, take}
use lib.Seq.{sets-eq, take-append_seam}
use Rattle.finite.specs.Decimal.{spaced}
use Rattle.finite.specs.Writing.{Wrote}
use Rattle.finite.proofs.Bools.{cond-true, cond-false, same_number}
use Rattle.finite.proofs.Decimals.{decimal-short, decimal-within}
use Rattle.finite.proofs.Writing.{reach, wrote_as}
use Rattle.model.specs.Scheme.{Scheme}
use Rattle.model.specs.Database.{Database}
use Rattle.model.specs.Reason.{Origin, by_value, by_range, last_constraint, last_row, chain_by}
use Rattle.model.specs.Sentence.{issue-word, issue_text, cell_text, link_text, origin_text, chain_text}
use Rattle.reason.specs.declared.lowest.Origin as Declared
use Rattle.reason.specs.Links.{root_by, links_text}
use Rattle.reason.specs.Lowest.{origin_of}

-- ---- lengths

pub link-short : (i s : ℕ) → i < 16 → s < 512 → length (link_text i s) ≤ 30
unfolding link_text
link-short i s k l =
    simp length-append (omega (arith, decimal-within 1 i (omega arith), decimal-within 2 s (omega arith)))

pub link-reach : (o o' : List ℕ) (n z i s : ℕ) → i < 16 → s < 512 → Wrote o o' n z (link_text i s) → z ≤ n + 30
link-reach o o' n z i s k l = reach o o' n z (link_text i s) 30 (link-short i s k l)

pub issue-none : (k : ℕ) → k ≡ 0 → issue_text k ≡ []
unfolding issue_text
issue-none k e = cond-true (eqb k 0) _ _ (eq-eqb k 0 e)

pub issue-some : (k : ℕ) → (k ≡ 0 → ⊥) → issue_text k ≡ issue-word ++ spaced k
unfolding issue_text
issue-some k n = cond-false (eqb k 0) _ _ (ne_eqb k 0 n)

issue-short : (k : ℕ) → length (issue_text k) ≤ 27
issue-short k = ⊎_elim
    (λ e. omega (arith, ap length (issue-none k e)))
    (λ m. omega (arith, ap length (issue-some k m), length-append issue-word (spaced k), decimal-short k))
    (same_number k 0)

pub issue-reach : (o o' : List ℕ) (n z k : ℕ) → Wrote o o' n z (issue_text k) → z ≤ n + 27
issue-reach o o' n z k = reach o o' n z (issue_text k) 27 (issue-short k)

pub origin-short : (q : Origin) → length (origin_text q) ≤ 89
unfolding origin_text cell_text
origin-short (by_value p) = simp length-append (omega (arith, decimal-short p.value.number, issue-short p.value.issue, decimal-short p.filling))
origin-short (by_range q) = simp length-append (omega (arith, decimal-short q.low, decimal-short q.high, decimal-short q.filling))

pub origin-reach : (o o' : List ℕ) (n z : ℕ) (q : Origin) → Wrote o o' n z (origin_text q) → z ≤ n + 89
origin-reach o o' n z q = reach o o' n z (origin_text q) 89 (origin-short q)

-- of one that is told by its case
pub origin-told : (o o' : List ℕ) (n z : ℕ) (a b : Declared.Origin) → a ≡ b → Wrote o o' n z (origin_text (origin_of b)) → Wrote o o' n z (origin_text (origin_of a))
origin-told o o' n z a b e = wrote_as _ _ _ _ _ _ _ refl (ap (λ (x : Declared.Origin). origin_text (origin_of x)) (sym e))

-- a sentence of fewer than 512 links fits its memory: a word and a number to place y, links to place x, and what it ends with to place z
pub sentence-within : (n w y x z : ℕ) → n < 512 → x ≤ y + 30 * n → y ≤ w + (2 + 2) → w ≤ 0 + 3 → z ≤ x + 89 → z ≤ 16384
sentence-within n w y x z a b c d e = omega arith

-- ---- parts

module _ (S : Scheme) (D : Database) (L : List ℕ) where
  -- a chain's text: its links, then what it ends with
  pub chain-parts : (origin : ℕ → Origin) (n r : ℕ) → chain_text (chain_by S D L origin n r) ≡ links_text S D L n r ++ origin_text (origin (root_by S D L n r))
  unfolding chain_by chain_text links_text root_by
  chain-parts origin zero r = refl
  chain-parts origin (suc n) r =
      ap (λ (xs : List ℕ). link_text (last_constraint S D L n r) (last_row S D L n r) ++ xs) (chain-parts origin n (last_row S D L n r)) ∙
      sym (append_assoc (link_text (last_constraint S D L n r) (last_row S D L n r)) _ _)

-- ---- what was written into memory of one's own is what is stored

pub written-take : (o o' : List ℕ) (z : ℕ) (w : List ℕ) → Wrote o o' 0 z w → length w ≤ length o → take z o' ≡ w
written-take o o' z w u h =
    let e : z ≡ length w = omega (arith, u.next) in
    ap₂ take e (u.text ∙ sets-eq w o 0 (omega arith)) ∙ take-append_seam w _
