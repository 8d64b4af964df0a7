-- The catalog is made part by part: the links and the directory first, then the rows that constraints demand, which leave the others as they are.
-- Assumes nothing.
use Prim.Native.Nat.{ℕ}
use native.Mathlib.Omega.{arith}
use mathlib.Core.Path.{◌≡◌, refl, sym, ap, subst, ◌∙◌}
use mathlib.Core.List.{List}
use lib.ListN.{length}
use Rattle.finite.proofs.Tables.{length-tab}
use Rattle.model.specs.Scheme.{Scheme}
use Rattle.model.specs.Database.{Database}
use Rattle.state.specs.Cells.{Cells}
use Rattle.state.specs.Meaning.{database_of}
use Rattle.catalog.specs.Catalog.{nexts, firsts, Stored, next_in, first_in, heads_in, starts_in, Links, Demands, Indexed, Catalogued, Directory}
use Rattle.catalog.proofs.PartLaws.{part-stored, part-before, part-behind}

-- the lent rows have 512 numbers
pub size-lent : (cells : Cells) (tables : List ℕ) → (database_of cells tables).size ≡ 512
unfolding database_of
size-lent cells tables = refl

pub stored_same : (a : ℕ) (vs ws xs ys : List ℕ) → vs ≡ ws → Stored a vs xs ys → Stored a ws xs ys
stored_same a vs ws xs ys e s = subst (λ (us : List ℕ). Stored a us xs ys) e s

-- ---- the links and the directory

module _ (c₀ c₁ c₂ c₃ next heads starts : List ℕ) (long : length c₀ ≡ 16449) (nl : length next ≡ 4096) (hl : length heads ≡ 4096)
    (sl : length starts ≡ 65) (s₁ : Stored 0 next c₀ c₁) (s₂ : Stored 12288 heads c₁ c₂) (s₃ : Stored 16384 starts c₂ c₃) where
  next-stored : next_in c₃ ≡ next
  next-stored =
      ap next_in s₃.is ∙ part-before 0 4096 c₂ starts 16384 (omega arith) ∙ ap next_in s₂.is ∙ part-before 0 4096 c₁ heads 12288 (omega arith)
      ∙ ap next_in s₁.is ∙ part-stored 0 4096 c₀ next nl (omega arith)

  heads-stored : heads_in c₃ ≡ heads
  heads-stored =
      ap heads_in s₃.is ∙ part-before 12288 4096 c₂ starts 16384 (omega arith) ∙ ap heads_in s₂.is ∙ part-stored 12288 4096 c₁ heads hl (omega (arith, s₁.long))

  starts-stored : starts_in c₃ ≡ starts
  starts-stored = ap starts_in s₃.is ∙ part-stored 16384 65 c₂ starts sl (omega (arith, s₁.long, s₂.long))

  pub indexed-made : (D : Database) (keys : List ℕ) → D.size ≡ 512 → next ≡ nexts D → Directory D keys heads starts → Indexed D c₃ keys
  indexed-made D keys z n d =
      record {
        links = record { long = s₃.long ∙ s₂.long ∙ s₁.long ∙ long; size_is = z; next-is = next-stored ∙ n };
        directory =
            subst (λ (h : List ℕ). Directory D keys h (starts_in c₃)) (sym heads-stored)
            (subst (λ (s : List ℕ). Directory D keys heads s) (sym starts-stored) d);
      }

-- ---- the demanded rows of a scheme, over what another scheme's were

module _ (S : Scheme) (D : Database) (catalog catalog' : List ℕ) (e : Stored 4096 (firsts S D) catalog catalog') where
  firsts-long : length (firsts S D) ≡ 8192
  firsts-long = length-tab 8192 _

  heads-kept : heads_in catalog' ≡ heads_in catalog
  heads-kept = ap heads_in e.is ∙ part-behind 12288 4096 catalog (firsts S D) 4096 (omega (arith, firsts-long))

  starts-kept : starts_in catalog' ≡ starts_in catalog
  starts-kept = ap starts_in e.is ∙ part-behind 16384 65 catalog (firsts S D) 4096 (omega (arith, firsts-long))

  pub demands-made : Links D catalog → Demands S D catalog'
  demands-made l =
      record {
        links = record { long = e.long ∙ l.long; size_is = l.size_is; next-is = ap next_in e.is ∙ part-before 0 4096 catalog (firsts S D) 4096 (omega arith) ∙ l.next-is };
        first-is = ap first_in e.is ∙ part-stored 4096 8192 catalog (firsts S D) firsts-long (omega (arith, l.long));
      }

  pub catalogued-made : (keys : List ℕ) → Indexed D catalog keys → Catalogued S D catalog' keys
  catalogued-made keys x =
      record {
        demands = demands-made x.links;
        index =
            record {
              links = (demands-made x.links).links;
              directory = subst (λ (h : List ℕ). Directory D keys h (starts_in catalog')) (sym heads-kept)
                  (subst (λ (s : List ℕ). Directory D keys (heads_in catalog) s) (sym starts-kept) x.directory);
            };
      }
