-- What opening leaves, case by case: too few words, a design that is refused, one that is accepted, which leaves memory that is ready. Assumes nothing.
use Prim.Native.Nat.{ℕ, ◌≤◌, ◌<◌}
use native.Mathlib.Omega.{arith}
use mathlib.Core.Path.{◌≡◌, refl, sym, ap, subst, ◌∙◌}
use mathlib.Core.Bool.{true, false}
use mathlib.Core.List.{List, []}
use lib.ListN.{length, replicate}
use lib.Seq.{sets, length-sets}
use Rattle.finite.proofs.Bools.{clash, cond-true, cond-false}
use Rattle.state.specs.Cells.{Cells}
use Rattle.state.specs.declared.design.Design.{Design}
use Rattle.state.specs.Design.{empty_design}
use Rattle.state.specs.Held.{none_held}
use Rattle.state.specs.HeldWords.{held_length, held_words, words_held}
use Rattle.state.specs.Lent.{lent, sound}
use Rattle.state.proofs.LentWords.{stored-record, zero-whole, zero-none}
use Rattle.lawful.specs.LawfulState.{LawfulDesign}
use Rattle.lawful.proofs.DesignLaws.{design-says}
use Rattle.lawful.proofs.RowsLaws.{Stored}
use Rattle.format.specs.declared.verdict.Verdict.TheVariants.{Accepted, Refused}
use Rattle.format.specs.declared.verdict.DesignReading.{DesignReading}
use Rattle.format.specs.Reading.{Draft, DesignRead, read_into, verdict_of, design_of, rows_read, cells_after, tables_after, marks_after, Leaves}
use Rattle.format.specs.Reading.DesignRead.{accepted, refused_at}
use Rattle.format.proofs.Small.{Small}
use Rattle.format.proofs.Reached.{accepted-lawful}
use Rattle.script.specs.Step.{outputs}
use Rattle.script.specs.JustRead.{Buffers, buffers, just_read}
use Rattle.run.specs.Runs.{beginning}
use Rattle.script.proofs.JustRead.{into-parts}
use Rattle.run.proofs.Begun.{begun}
use Rattle.run.proofs.Tracking.{Tracks}
use Rattle.words.specs.Words.{design_length, design_words, words_design, narrow_design}
use Rattle.wurzsige.specs.Told.{OpenTold}
use Rattle.wurzsige.specs.Calls.{Memory, memory, long_words, Arrays, CatalogIn, Ready, opening, Opened, OpenTaken}
use Rattle.words.proofs.WordLaws.{design-stored}
use Rattle.words.proofs.Narrow.{narrow-design}
use Rattle.words.proofs.NarrowWords.{design-narrow}
use Rattle.wurzsige.proofs.StoredWords.{stored-narrow}
use Rattle.wurzsige.proofs.Memories.{from_parts, long-words, short-design, short-held}

-- a refusal leaves everything as it was
refused-opened : (c i : ℕ) (r : DesignReading) → r ≡ record { verdict = Refused c i; design = empty_design; rows = 0 } → (m m' : Memory) → m' ≡ m →
    (k k' : Arrays) → k' ≡ k → Opened (refused_at c i) r m m' k k'
refused-opened c i r is m m' e k k' f =
    record {
      verdict = ap (λ (x : DesignReading). x.verdict) is;
      design = ap (λ (x : DesignReading). x.design) is;
      count = ap (λ (x : DesignReading). x.rows) is;
      memory = e;
      catalogs = record { made = λ g. clash {b = true} refl g; kept = λ g. f };
    }

-- an accepted design is lawful
pub accepted-design : (script : List ℕ) (cs : Cells) (ts ms : List ℕ) (r : DesignReading) (cs' : Cells) (ts' ms' : List ℕ) →
    Leaves (read_into script cs ts ms) r cs cs' ts ts' ms ms' → (j : ℕ) → r.verdict ≡ Accepted j → Small script → LawfulDesign r.design
accepted-design script cs ts ms r cs' ts' ms' read j v small = go (read_into script cs ts ms) refl
  where
    go : (w : DesignRead) → read_into script cs ts ms ≡ w → LawfulDesign r.design
    go (accepted p i) e =
        subst LawfulDesign (sym (read.design ∙ ap design_of e))
        (design-says p.design (accepted-lawful script small p i (into-parts script (buffers cs ts ms (outputs [] [])) p i e).1).0)
    go (refused_at c i) e = absurd (let z : ◌≡◌ {A = ℕ} 0 1 = cc (v, read.verdict ∙ ap verdict_of e) in omega arith)

module _ (script ds hs : List ℕ) (cs : Cells) (ts ms : List ℕ) where
  abbrev m : Memory
  m = memory ds hs cs ts ms

  -- ---- too few words

  short-opened : long_words m ≡ false → (r : DesignReading) → r ≡ record { verdict = Refused 7 0; design = empty_design; rows = 0 } → (k : Arrays) →
      Opened (opening script m) r m m k k
  unfolding opening
  short-opened e r is k =
      subst (λ (w : DesignRead). Opened w r m m k k) (sym (cond-false (long_words m) (read_into script cs ts ms) (refused_at 7 0) e))
      (refused-opened 7 0 r is m m refl k k refl)

  module _ (r : DesignReading) (is : r ≡ record { verdict = Refused 7 0; design = empty_design; rows = 0 }) (k : Arrays) where
    pub few-design-opened : length ds < design_length → Opened (opening script m) r m m k k
    few-design-opened l = short-opened (short-design m l) r is k

    pub few-held-opened : length hs < held_length → Opened (opening script m) r m m k k
    few-held-opened l = short-opened (short-held m l) r is k

  -- ---- enough: the design is read

  module _ (a : design_length ≤ length ds) (b : held_length ≤ length hs) (r : DesignReading) (cs' : Cells) (ts' ms' : List ℕ)
      (read : Leaves (read_into script cs ts ms) r cs cs' ts ts' ms ms') (k k' : Arrays) where
    opens : opening script m ≡ read_into script cs ts ms
    unfolding opening
    opens = cond-true (long_words m) (read_into script cs ts ms) (refused_at 7 0) (long-words m a b)

    by : (w : DesignRead) → read_into script cs ts ms ≡ w → (m' : Memory) → Opened w r m m' k k' → Opened (opening script m) r m m' k k'
    by w e m' = subst (λ (v : DesignRead). Opened v r m m' k k') (sym (opens ∙ e))

    pub refused-taken : (n i : ℕ) → r.verdict ≡ Refused n i → k' ≡ k → Opened (opening script m) r m (memory ds hs cs' ts' ms') k k'
    refused-taken n i v f = go (read_into script cs ts ms) refl
      where
        go : (w : DesignRead) → read_into script cs ts ms ≡ w → Opened (opening script m) r m (memory ds hs cs' ts' ms') k k'
        go (accepted p j) e = absurd (let z : ◌≡◌ {A = ℕ} 0 1 = cc (v, read.verdict ∙ ap verdict_of e) in omega arith)
        go (refused_at c j) e =
            by (refused_at c j) e (memory ds hs cs' ts' ms')
            (refused-opened c j r
            (λ x. record { verdict = (read.verdict ∙ ap verdict_of e) x; design = (read.design ∙ ap design_of e) x; rows = (read.count ∙ ap rows_read e) x })
            m (memory ds hs cs' ts' ms')
            (λ x. memory ds hs ((read.cells ∙ ap (λ (w : DesignRead). cells_after w cs) e) x) ((read.tables ∙ ap (λ (w : DesignRead). tables_after w ts) e) x)
            ((read.marks ∙ ap (λ (w : DesignRead). marks_after w ms) e) x))
            k k' f)

    module _ (j : ℕ) (v : r.verdict ≡ Accepted j) (small : Small script) where
      -- with its words stored, and those of nothing held, the memory is ready
      module _ (stored : Stored cs') (ds' hs' : List ℕ) (x : ds' ≡ sets ds 0 (design_words r.design))
          (y : hs' ≡ sets hs 0 (replicate 358 0)) (catalog : CatalogIn k' r.design cs' ts') where
        abbrev m' : Memory
        m' = memory ds' hs' cs' ts' ms'

        module _ (p : Draft) (i : ℕ) (e : read_into script cs ts ms ≡ accepted p i) where
          abbrev lends : Buffers
          lends = buffers cs ts ms (outputs [] [])

          cells : cs' ≡ cells_after (accepted p i) cs
          cells = read.cells ∙ ap (λ (w : DesignRead). cells_after w cs) e

          tables : ts' ≡ tables_after (accepted p i) ts
          tables = read.tables ∙ ap (λ (w : DesignRead). tables_after w ts) e

          marks : ms' ≡ marks_after (accepted p i) ms
          marks = read.marks ∙ ap (λ (w : DesignRead). marks_after w ms) e

          design : ds' ≡ sets ds 0 (design_words p.design)
          design = x ∙ ap (λ (d : Design). sets ds 0 (design_words d)) (read.design ∙ ap design_of e)

          held : hs' ≡ sets hs 0 (held_words none_held)
          held = y ∙ ap (sets hs 0) (zero-whole ∙ ap held_words zero-none)

          opened-ready : Ready m' k'
          opened-ready =
              let g : Tracks p lends (beginning p) (just_read (accepted p i) lends) = begun script small lends p i e (subst Stored cells stored) in
              let l = accepted-lawful script small p i (into-parts script lends p i e).1 in
              let z = l.2 in
              let nd = narrow-design p.design l.0 in
              let d : words_design ds' ≡ p.design =
              ap words_design design ∙ design-stored p.design (record { table = z.table; constraint = z.constraint; filling = z.filling }) nd ds a in
              let zero = stored-record hs (replicate 358 0) hs' b zero-whole y in
              let h : words_held hs' ≡ none_held = zero.0 ∙ zero-none in
              record {
                sound = from_parts m' (record {
                  design = omega (arith, a, ap length design, length-sets ds 0 (design_words p.design));
                  held = omega (arith, b, ap length y, length-sets hs 0 (replicate 358 0));
                  design_narrow = ap narrow_design design ∙ design-narrow p.design nd ds a;
                  held_narrow = stored-narrow hs (replicate 358 0) hs' b y zero-whole;
                  state = ap sound (λ u. lent (d u) (cells u) (tables u) (marks u) (h u)) ∙ g.sound;
                });
                catalog = subst (λ (q : Design). CatalogIn k' q cs' ts') (read.design ∙ ap design_of e ∙ sym d) catalog;
              }

        pub accepted-taken : Opened (opening script m) r m m' k k'
        accepted-taken = go (read_into script cs ts ms) refl
          where
            go : (w : DesignRead) → read_into script cs ts ms ≡ w → Opened (opening script m) r m m' k k'
            go (refused_at c i) e = absurd (let z : ◌≡◌ {A = ℕ} 0 1 = cc (v, read.verdict ∙ ap verdict_of e) in omega arith)
            go (accepted p i) e =
                by (accepted p i) e m' (record {
                  verdict = read.verdict ∙ ap verdict_of e;
                  design = read.design ∙ ap design_of e;
                  count = read.count ∙ ap rows_read e;
                  memory = λ u. memory (design p i e u) (held p i e u) (cells p i e u) (tables p i e u) (marks p i e u);
                  catalogs = record { made = λ g. opened-ready p i e; kept = λ g. clash {b = false} g refl };
                })

-- ---- it is told

pub open-taken : (w : DesignRead) (r : DesignReading) (m m' : Memory) (k k' : Arrays) → Opened w r m m' k k' → (n : ℕ) (ns : List ℕ) (c p q g : ℕ) →
    ((v : DesignRead) → r.verdict ≡ verdict_of v → r.design ≡ design_of v → r.rows ≡ rows_read v → OpenTold v n ns c p q g) →
    OpenTaken w n ns c p q g m m' k k'
open-taken w r m m' k k' o n ns c p q g t = record { told = t w o.verdict o.design o.count; memory = o.memory; catalogs = o.catalogs }
