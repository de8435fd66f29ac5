-- What a part of a run has written, from what its steps have written.
use Rattle.std.proofs.Common.{◌≡◌, ℕ, List, [], ◌++◌, Ok, Err, Result, sym, ap, ◌∙◌, append_assoc, append-nil}
use Rattle.std.specs.Result.{IsErrAnd}
use Rattle.sheets.specs.declared.fault.Fault.{Fault}
use Rattle.runs.specs.declared.stop.Stop.{Stop}
use Rattle.runs.specs.declared.stop.Stop.TheVariants.{Faulty, NoMemory}
use Rattle.runs.specs.Lines.{stop_line}
use Rattle.runs.specs.Written.{Adds}

-- nothing is to be written
pub adds_nothing : (text : List ℕ) {lines : List ℕ} → lines ≡ [] → text ≡ text ++ lines
adds_nothing text e = sym (append-nil text) ∙ ap (λ l. text ++ l) (sym e)

module _ (before : List ℕ) {lines : List ℕ} (r : Result (Unit {0}) Stop) where
  -- nothing but the line of a fault is to be written
  pub adds_stop : (f : Fault) → IsErrAnd r (λ s. s ≡ Faulty f) → lines ≡ stop_line f → Adds before before lines r
  adds_stop f told e = elim r as (λ r. IsErrAnd r (λ s. s ≡ Faulty f) → Adds before before lines r)
      [ Ok x ↦ λ told. absurd told | Err s ↦ λ told. rw told (ap (λ l. before ++ l) (sym e)) ] told

  -- the same lines under another name
  pub adds_as : (after : List ℕ) {b : List ℕ} → lines ≡ b → Adds before after b r → Adds before after lines r
  adds_as after e w = rw e w

  -- lines that were written before
  pub adds_after : (mid after a b : List ℕ) → mid ≡ before ++ a → lines ≡ a ++ b → Adds mid after b r → Adds before after lines r
  adds_after mid after a b e is w = elim r as (λ r. Adds mid after b r → Adds before after lines r) [
    | Ok x ↦ λ w. w ∙ ap (λ l. l ++ b) e ∙ append_assoc before a b ∙ ap (λ l. before ++ l) (sym is)
    | Err (Faulty f) ↦ λ w. w ∙ ap (λ l. l ++ b) e ∙ append_assoc before a b ∙ ap (λ l. before ++ l) (sym is)
    | Err (NoMemory d) ↦ λ w. tt
  ] w
