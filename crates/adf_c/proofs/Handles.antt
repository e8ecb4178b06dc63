-- The two handles.
use Rattle.std.proofs.Common.{refl}
use Rattle.adf_c.proofs.HandleValues.{Handle}
use Rattle.adf_c.specs.contracts.desk.Desk as desk
use Rattle.ados_salvage.specs.contracts.saved.Salvage as saved
use Rattle.adf_c.specs.contracts.handle.JipHandle as jip_handle
use Rattle.adf_c.specs.contracts.handle.JipSalvage as jip_salvage

abbrev pub handle : Handle
handle = record {
  R = desk.the_row;
  struct = jip_handle.the_type;
  parts = λ h. (h.at, (h.alloc, h.held));
  make = λ t. record { at = t.0; alloc = t.1.0; held = t.1.1 };
  made = λ t. refl;
}

abbrev pub salvage : Handle
salvage = record {
  R = saved.the_row;
  struct = jip_salvage.the_type;
  parts = λ h. (h.at, (h.alloc, h.held));
  make = λ t. record { at = t.0; alloc = t.1.0; held = t.1.1 };
  made = λ t. refl;
}
