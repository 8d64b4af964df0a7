-- What `begin` and `next_part` give, and the loop that hands the parts over: each part stands in the report behind the one before it. Assumes nothing.
use Prim.Native.Nat.{ℕ, ◌+◌, ◌*◌, ◌≤◌, ◌<◌}
use native.Mathlib.Omega.{arith}
use mathlib.Core.Path.{◌≡◌, refl, sym, ap, ap₂, subst, ◌∙◌}
use mathlib.Core.Bool.{true, false, cond}
use mathlib.Core.List.{List, [], ◌++◌, append-nil}
use borrow.Author.Tests.{ltb-true}
use lib.Dec.{ltb}
use lib.ListN.{length, take, drop, length-append, length-drop}
use lib.Seq.{sets-eq, take_at, drop_at, take-append_seam, drop-drop, length-take-le}
use Rattle.finite.specs.Writing.{Wrote}
use Rattle.finite.proofs.Bools.{clash, cond-true, cond-false}
use Rattle.finite.proofs.Writing.{wrote-long}
use Rattle.model.specs.Database.{Database}
use Rattle.state.specs.Cells.{Cells}
use Rattle.state.specs.declared.design.Design.{Design}
use Rattle.state.specs.declared.held.Held.{Held}
use Rattle.state.specs.Held.{none_held}
use Rattle.state.specs.Meaning.{scheme_of}
use Rattle.state.specs.Lent.{State, lent, sound}
use Rattle.catalog.specs.Catalog.{Catalogued}
use Rattle.lawful.proofs.RowsLaws.{Stored}
use Rattle.format.specs.declared.verdict.Verdict.{Verdict}
use Rattle.format.specs.declared.verdict.Verdict.TheVariants.{Accepted, Refused}
use Rattle.format.specs.declared.verdict.DesignReading.{DesignReading}
use Rattle.format.specs.Reading.{DesignRead, read_into, verdict_of, design_of, rows_read, Leaves}
use Rattle.format.specs.Reading.DesignRead.{accepted, refused_at}
use Rattle.format.proofs.Small.{Small}
use Rattle.report.specs.Report.{design_line, refusal_line}
use Rattle.report.proofs.Lengths.{design-line-reach, refusal-line-reach}
use Rattle.script.specs.Step.{Outputs}
use Rattle.script.specs.JustRead.{Buffers, buffers, just_read}
use Rattle.desk.specs.declared.reporting.Progress.{Progress}
use Rattle.desk.specs.declared.Handed.{Handed}
use Rattle.desk.specs.Printed.{text_at, rest_of, report_of, Printed}
use Rattle.desk.specs.Parts.{first_text, first_place, any_command, First, Part, NextReady, Begins, Continues, lent_buffers, desk_report, Stands, HandedOver}
use Rattle.desk.proofs.TextLaws.{turns, turns-less, turns-few}
use Rattle.desk.proofs.Started.{started}
use Rattle.desk.proofs.WholeReport.{report-begins, report-ends}

-- a text written from 0 on stands in front
front : (o o' : List ℕ) (z : ℕ) (w : List ℕ) → Wrote o o' 0 z w → z ≤ length o → take z o' ≡ w
front o o' z w h l =
    let e : length w ≡ z = omega (arith, h.next) in
    ap (take z) (h.text ∙ sets-eq w o 0 (omega arith)) ∙ take_at w (drop (0 + length w) o) z e

-- ---- the first part

pub first-accepted : (script : List ℕ) (d : Design) (rows : ℕ) (v : Verdict) (i : ℕ) (o o' : List ℕ) (p : Progress) → v ≡ Accepted i →
    Wrote o o' 0 p.end (design_line d rows) →
    p.at ≡ i → p.number ≡ 0 → p.more ≡ ltb i (length script) → p.design ≡ d → First script d rows v o o' p
unfolding first_text any_command
first-accepted script d rows v i o o' p e w a n m h =
    subst (λ (u : Verdict). First script d rows u o o' p) (sym e) (record { wrote = w; at = a; number = n; more = m; design = h })

pub first-refused : (script : List ℕ) (d : Design) (rows : ℕ) (v : Verdict) (n i : ℕ) (o o' : List ℕ) (p : Progress) → v ≡ Refused n i →
    Wrote o o' 0 p.end (refusal_line n i) →
    p.at ≡ i → p.number ≡ 0 → p.more ≡ false → p.design ≡ d → First script d rows v o o' p
unfolding first_text any_command
first-refused script d rows v n i o o' p e w a k m h =
    subst (λ (u : Verdict). First script d rows u o o' p) (sym e) (record { wrote = w; at = a; number = k; more = m; design = h })

-- a command follows only an accepted design
pub accepted-more : (script : List ℕ) (d : Design) (rows : ℕ) (v : Verdict) (o o' : List ℕ) (p : Progress) → First script d rows v o o' p → p.more ≡ true →
    (i : ℕ) × (v ≡ Accepted i)
unfolding any_command
accepted-more script d rows (Accepted i) o o' p f m = (i, refl)
accepted-more script d rows (Refused n i) o o' p f m = clash m f.more

-- the catalog is of the design with which the report goes on
pub designed : (d e : Design) → e ≡ d → (D : Database) (catalog keys : List ℕ) → Catalogued (scheme_of d) D catalog keys → Catalogued (scheme_of e) D catalog keys
designed d e h D catalog keys = subst (λ (x : Design). Catalogued (scheme_of x) D catalog keys) (sym h)

first_reach : (o o' : List ℕ) (z : ℕ) (d : Design) (rows : ℕ) (v : Verdict) → Wrote o o' 0 z (first_text d rows v) → z ≤ 91
unfolding first_text
first_reach o o' z d rows (Accepted i) w = omega (arith, design-line-reach o o' 0 z d rows w)
first_reach o o' z d rows (Refused n i) w = omega (arith, refusal-line-reach o o' 0 z n i w)

module _ (script : List ℕ) (cs₀ : Cells) (ts₀ ms₀ : List ℕ) (outs : Outputs) (r : DesignReading) (cs : Cells) (ts ms : List ℕ)
    (read : Leaves (read_into script cs₀ ts₀ ms₀) r cs₀ cs ts₀ ts ms₀ ms) (p : Progress) (o o' : List ℕ)
    (first : First script r.design r.rows r.verdict o o' p) where
  abbrev b : Buffers
  b = buffers cs₀ ts₀ ms₀ outs

  -- the state is that of the design just read
  start_is : (R : DesignRead) → read_into script cs₀ ts₀ ms₀ ≡ R → lent p.design cs ts ms none_held ≡ just_read R b
  start_is R e =
      (λ x. lent ((first.design ∙ read.design) x) (read.cells x) (read.tables x) (read.marks x) none_held) ∙ ap (λ (Q : DesignRead). just_read Q b) e

  -- the report is the first text, and what is then still to be printed
  begins-whole : (R : DesignRead) → read_into script cs₀ ts₀ ms₀ ≡ R →
      report_of script b R ≡ first_text r.design r.rows r.verdict ++ rest_of script (lent p.design cs ts ms none_held) outs p
  unfolding first_text any_command
  begins-whole (accepted q i) e =
      let v : r.verdict ≡ Accepted i = read.verdict ∙ ap verdict_of e in
      let d : r.design ≡ q.design = read.design ∙ ap design_of e in
      let n : r.rows ≡ q.rows = read.count ∙ ap rows_read e in
      report-begins script b q i p (first.at ∙ ap first_place v) first.number (first.more ∙ ap (any_command script) v) ∙
      sym (λ x. first_text (d x) (n x) (v x) ++ rest_of script (start_is (accepted q i) e x) outs p)
  begins-whole (refused_at n i) e =
      let v : r.verdict ≡ Refused n i = read.verdict ∙ ap verdict_of e in
      sym
      (ap₂ (λ (a c : List ℕ). a ++ c) (ap (first_text r.design r.rows) v) (report-ends script _ outs p (first.more ∙ ap (any_command script) v)) ∙
      append-nil (refusal_line n i))

  begins-ready : Small script → Stored cs → p.more ≡ true → (v : Verdict) → r.verdict ≡ v → NextReady script (lent p.design cs ts ms none_held) p
  unfolding any_command
  begins-ready small stored m (Accepted j) v =
      let l : p.at ≡ j = first.at ∙ ap first_place v in
      record {
        sound = ap (λ (d : Design). sound (lent d cs ts ms none_held)) first.design ∙ started script cs₀ ts₀ ms₀ r cs ts ms read small stored j v;
        at = omega (arith, l, ltb-true j (length script) (sym (first.more ∙ ap (any_command script) v) ∙ m));
        number = omega (arith, first.number);
      }
  begins-ready small stored m (Refused n i) v = clash m (first.more ∙ ap (any_command script) v)

  pub begins : Small script → Stored cs → 91 ≤ length o → Begins script b cs ts ms o' p
  begins small stored room =
      let reach = first_reach o o' p.end r.design r.rows r.verdict first.wrote in
      record {
        part = record {
          fits = omega (arith, wrote-long o o' 0 p.end _ first.wrote);
          whole = begins-whole (read_into script cs₀ ts₀ ms₀) refl ∙
              ap (λ (t : List ℕ). t ++ rest_of script (lent p.design cs ts ms none_held) outs p)
              (sym (front o o' p.end _ first.wrote (omega arith)));
        };
        ready = λ m. begins-ready small stored m r.verdict refl;
      }

-- ---- the next part

pub continues : (script : List ℕ) (s : State) (outs : Outputs) (from p : Progress) (o o' : List ℕ) (e : State) (w : Outputs) (q : Progress) →
    p.at ≡ from.at → p.number ≡ from.number → p.more ≡ from.more → p.end ≡ 0 → Printed script s outs p o o' e w q → q.end ≤ length o →
    (q.more ≡ true → (p.at < q.at) × (q.at < length script) × (q.number ≤ q.at)) → Continues script s outs from o' e w q
unfolding rest_of
continues script s outs from p o o' e w q a n m z r l f =
    let wrote = subst (λ (k : ℕ). Wrote o o' k q.end r.part) z r.wrote in
    record {
      part = record {
        fits = omega (arith, wrote-long o o' 0 q.end _ wrote);
        whole = (λ x. cond (sym m x) (text_at script s outs (sym n x) (sym a x)) []) ∙ r.whole ∙
            ap (λ (t : List ℕ). t ++ rest_of script e w q) (sym (front o o' q.end r.part wrote l));
      };
      ready = λ h. record { sound = r.sound; at = (f h).1; number = (f h).2 };
      on = λ h. omega (arith, a, (f h).0);
    }

-- ---- handing over

-- where the part that the buffer has stands in the report: behind the `done` bytes that were handed over. The last field bounds their number.
pub record Standing (script : List ℕ) (s : State) (outs : Outputs) (p : Progress) (out : List ℕ) (done : ℕ) : Type 0 where
  pub within : done ≤ length (desk_report script)
  pub part : Part (drop done (desk_report script)) out p.end (rest_of script s outs p)
  pub ready : p.more ≡ true → NextReady script s p
  pub small : done + p.end + 81920 * turns script p ≤ 81920 * 65540

pub standing-first : (script : List ℕ) (cs : Cells) (ts ms o : List ℕ) (p : Progress) → Begins script lent_buffers cs ts ms o p → length o ≡ 81920 → length script ≤ 65537 →
    (h : Held) → h ≡ none_held → Standing script (lent p.design cs ts ms h) lent_buffers.outputs p o 0
unfolding desk_report
standing-first script cs ts ms o p f l k h e =
    subst (λ (g : Held). Standing script (lent p.design cs ts ms g) lent_buffers.outputs p o 0) (sym e)
    (record {
      within = omega arith;
      part = f.part;
      ready = f.ready;
      small = omega (arith, f.part.fits, turns-few script p);
    })

module _ (script : List ℕ) (s : State) (outs : Outputs) (p : Progress) (out : List ℕ) (done : ℕ) (h : Standing script s outs p out done) where
  pub stands : Stands (desk_report script) done (take p.end out)
  stands = record { here = sym (ap (take (length (take p.end out))) h.part.whole ∙ take-append_seam (take p.end out) _) }

  long : length (take p.end out) ≡ p.end
  long = length-take-le p.end out h.part.fits

  behind : drop (done + p.end) (desk_report script) ≡ rest_of script s outs p
  behind = sym (drop-drop p.end done (desk_report script)) ∙ ap (drop p.end) h.part.whole ∙ drop_at (take p.end out) _ p.end long

  reached : done + p.end ≤ length (desk_report script)
  reached =
      omega (arith, h.within, long, length-drop done (desk_report script), ap length h.part.whole, length-append (take p.end out) (rest_of script s outs p))

  -- h' is what handing the part over gave
  module _ (h' : Handed) (sum : h'.bytes ≡ cond h'.well (done + length (take p.end out)) done) where
    counted : h'.well ≡ true → h'.bytes ≡ done + p.end
    counted e = omega (arith, long, sum ∙ cond-true h'.well _ _ e)

    pub standing-next : h'.well ≡ true → p.more ≡ true → (o : List ℕ) (s' : State) (w : Outputs) (q : Progress) → Continues script s outs p o s' w q → length o ≡ 81920 →
        Standing script s' w q o h'.bytes
    standing-next t e o s' w q f l =
        record {
          within = omega (arith, counted t, reached);
          part = record { fits = f.part.fits; whole = ap (λ (k : ℕ). drop k (desk_report script)) (counted t) ∙ behind ∙ f.part.whole };
          ready = f.ready;
          small = omega (arith, counted t, h.small, f.part.fits, turns-less script p q e (λ k. (f.on k, (f.ready k).at)));
        }

    -- no command follows: all has been handed over
    pub handed-all : h'.well ≡ true → p.more ≡ false → HandedOver (desk_report script) h'
    handed-all t e =
        record {
          within = omega (arith, counted t, reached);
          whole = λ k. omega (arith, counted t, reached, length-drop (done + p.end) (desk_report script), ap length (behind ∙ report-ends script s outs p e));
        }

    pub handed-some : h'.well ≡ false → HandedOver (desk_report script) h'
    handed-some f = record { within = omega (arith, h.within, sum ∙ cond-false h'.well _ _ f); whole = λ k. clash k f }
