-- What an answer was before its refusal was located.
use Rattle.std.proofs.Common.{◌≡◌, ℕ, Ok, Err, Result, refl}
use Rattle.std.specs.Result.{result_map_both}
use Rattle.base.specs.declared.refusal.Refusal.{Refusal}
use Rattle.sheets.specs.declared.fault.Fault.{Fault}
use Rattle.sheets.specs.declared.fault.Layer.{Layer}
use Rattle.sheets.specs.Faults.{fault_at}

module _ {X : Type 0} (l : Layer) (p : ℕ) where
  pub was_granted : (r : Result X Refusal) (x : X) → Ok x ≡ result_map_both (λ (y : X). y) (fault_at l p) r → r ≡ Ok x
  was_granted (Ok y) x e = cc
  was_granted (Err q) x e = absurd cc

  pub was_refused : (r : Result X Refusal) (f : Fault) → Err f ≡ result_map_both (λ (y : X). y) (fault_at l p) r → (q : Refusal) × (r ≡ Err q) × (f ≡ fault_at l p q)
  was_refused (Ok y) f e = absurd cc
  was_refused (Err q) f e = (q, refl, cc)
