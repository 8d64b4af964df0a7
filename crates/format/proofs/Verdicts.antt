-- What is answered where the first pass has stopped: its verdict, or cause 6; and the catalog. Assumes nothing.
use Prim.Native.Nat.{ℕ, ◌*◌, ◌≤◌, ◌<◌}
use native.Mathlib.Omega.{arith}
use mathlib.Core.Path.{◌≡◌, refl, sym, ap, ap₂, subst, ◌∙◌}
use mathlib.Core.List.{List, ◌++◌}
use lib.ListN.{length}
use Rattle.state.specs.Cells.{Cells, cells_in}
use Rattle.state.specs.declared.design.Design.{Design}
use Rattle.state.specs.Design.{empty_design}
use Rattle.state.specs.Meaning.{scheme_of, database_of}
use Rattle.catalog.specs.Catalog.{nexts, Catalogued}
use Rattle.format.specs.declared.verdict.DesignReading.{DesignReading}
use Rattle.format.specs.declared.verdict.Verdict.{Verdict}
use Rattle.format.specs.declared.verdict.Verdict.TheVariants.{Accepted, Refused}
use Rattle.format.specs.declared.reading.Stop.{Stop}
use Rattle.format.specs.Reading.{Draft, draft, DesignRead, Read, verdict_of, design_of, rows_read}
use Rattle.format.specs.Reading.DesignRead.{accepted, refused_at}
use Rattle.format.specs.Admitting.{again, Earliest, read_as, Stopped, unique_next, lowest, Opens, Keeps}
use Rattle.format.specs.Writing.{row_place}
use Rattle.format.proofs.CatalogOf.{catalogued-copied}
use Rattle.format.proofs.RepeatLaws.{found_none, found_first}

-- ---- the reading, and the catalog

-- a refused design has no catalog
not-both : (n i j : ℕ) → Refused n i ≡ Accepted j → ⊥
not-both n i j e = let z : ◌≡◌ {A = ℕ} 0 1 = cc in omega arith

pub opens-refused : (v : Verdict) (d : Design) (n i : ℕ) → v ≡ Refused n i → (cells : Cells) (tables catalog keys : List ℕ)
    → Opens (record { verdict = v; design = d; rows = 0 }) cells tables catalog keys
opens-refused v d n i e cells tables catalog keys j f = absurd (not-both n i j (sym e ∙ f))

pub keeps-accepted : (x : DesignReading) (j : ℕ) → x.verdict ≡ Accepted j → (a a' k k' : List ℕ) → Keeps x a a' k k'
keeps-accepted x j e a a' k k' = record { catalog = λ c i g. absurd (not-both c i j (sym g ∙ e)); keys = λ c i g. absurd (not-both c i j (sym g ∙ e)) }

-- what is copied out is catalogued
pub opens-copied : (v : Verdict) (d : Design) (cells : Cells) (tables catalog keys : List ℕ)
    → Opens (record { verdict = v; design = d; rows = 0 }) cells tables catalog keys
    → length cells.numbers ≡ 4096 → length cells.issues ≡ 4096 → length tables ≡ 512 → (cs is ts more others rest : List ℕ)
    → cs ≡ cells.numbers ++ more → is ≡ cells.issues ++ others → ts ≡ tables ++ rest
    → Opens (record { verdict = v; design = d; rows = 0 }) (cells_in cs is) ts catalog keys
opens-copied v d cells tables catalog keys o a c b cs is ts more others rest e g f i y =
    subst (λ (ys : List ℕ). Catalogued (scheme_of d) (database_of (cells_in cs is) ys) catalog keys) (sym f)
    (subst (λ (xs : Cells). Catalogued (scheme_of d) (database_of xs (tables ++ rest)) catalog keys) (sym (ap₂ cells_in e g))
    (catalogued-copied d cells tables more others rest catalog keys a c b (o i y)))

-- a refusal with the place where row r's command begins
pub refusal-at : (x : DesignReading) (i j : ℕ) → x ≡ record { verdict = Refused 6 i; design = empty_design; rows = 0 } → i ≡ j → x ≡ record { verdict = Refused 6 j; design = empty_design; rows = 0 }
refusal-at x i j e f = e ∙ ap (λ (k : ℕ). let z : DesignReading = record { verdict = Refused 6 k; design = empty_design; rows = 0 } in z) f

pub read-refused : (w : DesignRead) (x : DesignReading) (cells : Cells) (tables : List ℕ) (n i : ℕ) → w ≡ refused_at n i
    → x ≡ record { verdict = Refused n i; design = empty_design; rows = 0 } → Read w x cells tables
read-refused w x cells tables n i h g =
    record {
      verdict = ap (λ y. y.verdict) g ∙ sym (ap verdict_of h);
      design = ap (λ y. y.design) g ∙ sym (ap design_of h);
      count = ap (λ y. y.rows) g ∙ sym (ap rows_read h);
      rows = λ q j k. absurd (never n i q j (sym h ∙ k));
    }
  where
    never : (m k : ℕ) (q : Draft) (j : ℕ) → refused_at m k ≡ accepted q j → ⊥
    never m k q j e = let z : ◌≡◌ {A = ℕ} 0 1 = cc in omega arith

pub read-accepted : (w : DesignRead) (v : Verdict) (d : Design) (n : ℕ) (cells : Cells) (tables : List ℕ) (j : ℕ) → v ≡ Accepted j
    → w ≡ accepted (draft d n cells tables) j → Read w (record { verdict = v; design = d; rows = n }) cells tables
read-accepted w v d n cells tables j g e =
    record {
      verdict = g ∙ sym (ap verdict_of e);
      design = sym (ap design_of e);
      count = sym (ap rows_read e);
      rows = λ q k f. let z = same (draft d n cells tables) q j k (sym e ∙ f) in (ap (λ (x : Draft). x.cells) z, ap (λ (x : Draft). x.tables) z);
    }
  where
    same : (a b : Draft) (j k : ℕ) → accepted a j ≡ accepted b k → a ≡ b
    same a b j k e = cc

-- ---- the first pass has stopped, the rows read are catalogued, and the lowest next row in a unique column is r

module _ (w : DesignRead) (p : Stop) (cells : Cells) (tables catalog keys : List ℕ) (h : Stopped w p cells tables)
    (k : Catalogued (scheme_of p.design) (database_of cells tables) catalog keys) (r : ℕ)
    (f : r ≡ lowest (8 * p.rows) (unique_next p.design tables (nexts (database_of cells tables)))) where
  earliest : r < p.rows → Earliest p.rows (again p.design cells tables) r
  earliest l = found_first p.design p.rows cells tables _ h.most refl r f l

  -- row r repeats a value
  pub rows-twice : r < p.rows → (x : DesignReading) → x ≡ record { verdict = Refused 6 (row_place p.design cells r); design = empty_design; rows = 0 }
      → Read w x cells tables × Opens x cells tables catalog keys
  rows-twice l x e = (
    read-refused w x cells tables 6 _ (h.twice r (earliest l)) e,
    opens-refused x.verdict x.design 6 _ (ap (λ y. y.verdict) e) cells tables catalog keys,
  )

  -- no row does: the verdict stands
  module _ (l : p.rows ≤ r) where
    once : (v : Verdict) → p.verdict ≡ v → w ≡ read_as v (draft p.design p.rows cells tables)
    once v e = h.once (found_none p.design p.rows cells tables _ h.most refl r f l) ∙
        ap (λ (y : Verdict). read_as y (draft p.design p.rows cells tables)) e

    pub rows-refused : (n i : ℕ) → p.verdict ≡ Refused n i → (x : DesignReading) → x ≡ record { verdict = Refused n i; design = empty_design; rows = 0 }
        → Read w x cells tables × Opens x cells tables catalog keys
    rows-refused n i e x g = (
      read-refused w x cells tables n i (once (Refused n i) e) g,
      opens-refused x.verdict x.design n i (ap (λ y. y.verdict) g) cells tables catalog keys,
    )

    pub rows-accepted : (j : ℕ) → p.verdict ≡ Accepted j → let x : DesignReading = record { verdict = p.verdict; design = p.design; rows = p.rows } in
        Read w x cells tables × Opens x cells tables catalog keys
    rows-accepted j e = (read-accepted w p.verdict p.design p.rows cells tables j e (once (Accepted j) e), λ i _. k)
