-- A fault: a refusal with its layer and the byte place of the field, and how it is written.
use Rattle.std.specs.Prelude.{ℕ, List, ◌++◌, codes, decimal}
use Rattle.base.specs.Refusals.{refusal_number}
use Rattle.base.specs.declared.refusal.Refusal.{Refusal}
use Rattle.sheets.specs.declared.fault.Fault.{Fault}
use Rattle.sheets.specs.declared.fault.Layer.{Layer}
use Rattle.sheets.specs.declared.fault.Layer.TheVariants.{Sheet, Floor}

abbrev pub fault_at : Layer → ℕ → Refusal → Fault
fault_at l p r = record { layer = l; refusal = r; place = p }

abbrev pub layer_word : Layer → List ℕ
layer_word Sheet = codes "sheet"
layer_word Floor = codes "floor"

-- the layer, the number and the place, with a blank between them
abbrev pub fault_text : Fault → List ℕ
fault_text f = layer_word f.layer ++ (codes " " ++ (decimal (refusal_number f.refusal) ++ (codes " " ++ decimal f.place)))
