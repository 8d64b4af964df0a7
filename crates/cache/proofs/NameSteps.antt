-- What the naming of a desk answers and leaves of a sound state (02, Req 07). Assumes nothing.
use Prim.Native.Nat.{ℕ, ◌≤◌, ◌<◌}
use mathlib.Core.Path.{◌≡◌, sym, ap, ap₂, ◌∙◌}
use mathlib.Core.Bool.{Bool, true, not}
use mathlib.Core.List.{◌++◌}
use borrow.Author.Tests.{lt-ltb, le-ltb}
use lib.Dec.{ltb}
use lib.ListN.{drop as past, take-append-drop}
use Rattle.finite.proofs.Bools.{cond-true, cond-false}
use Rattle.model.specs.Holding.{desks}
use Rattle.model.specs.Runs.{name, Cache, at_desk}
use Rattle.model.specs.Answers.{named, refused, unless}
use Rattle.model.specs.Effects.{effect}
use Rattle.state.specs.declared.held.Held.{Held}
use Rattle.state.specs.Meaning.{held_of}
use Rattle.state.specs.Lent.{State, lent, cache, sound, Answered}
use Rattle.state.proofs.Arrays.{HeldSized}
use Rattle.lawful.proofs.HeldLaws.{held_back}
use Rattle.lawful.proofs.SoundState.{parts, after, answer-at, held-after, marks-after, unchanged}

-- the record with another desk named
abbrev pub renamed : Held → ℕ → Held
renamed h d = record { desk = d; count = h.count; values = h.values; ranges = h.ranges }

module _ (s : State) (e : sound s ≡ true) (l : HeldSized s.held) (d : ℕ) where
  pub name-5 : desks ≤ d → Answered s (name d) (refused 5) s
  unfolding effect
  name-5 h =
      record {
        answer = sym (ap (λ (b : Bool). unless (not b) 5 (named d)) (le-ltb d desks h)) ∙ sym (answer-at s e (name d));
        state = sym (unchanged s e (name d) l (cond-false (ltb d desks) (at_desk (cache s) d) (cache s) (le-ltb d desks h)));
      }

  left : d < desks → after s (name d) ≡ at_desk (cache s) d
  unfolding effect
  left h = cond-true (ltb d desks) (at_desk (cache s) d) (cache s) (lt-ltb d desks h)

  held : held_of (at_desk (cache s) d).held ≡ renamed s.held d
  unfolding held_of
  held = ap (λ (g : Held). renamed g d) (held_back s.design s.held (parts s e).held l)

  pub name-desk : d < desks → Answered s (name d) (named d) (lent s.design s.cells s.tables s.marks (renamed s.held d))
  unfolding effect
  name-desk h =
      record {
        answer = sym (ap (λ (b : Bool). unless (not b) 5 (named d)) (lt-ltb d desks h)) ∙ sym (answer-at s e (name d));
        state = ap₂ (lent s.design s.cells s.tables)
            (sym (marks-after s e (name d) ∙ ap (λ (c : Cache). c.marks ++ past 512 s.marks) (left h) ∙ take-append-drop 512 s.marks))
            (sym (held-after s e (name d) ∙ ap (λ (c : Cache). held_of c.held) (left h) ∙ held));
      }
