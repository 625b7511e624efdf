use Rattle.std.proofs.Common.{◌∙◌}
use Rattle.userspace.specs.Userspace.{validated}
use Rattle.userspace.proofs.Steps.{same_judged, mode_number_lem}
use Rattle.userspace.proofs.KernelObject.validate.Goals as goal

pub returns : goal.returns
unfolding validated
returns c = c.validate_decide.ensures ∙ same_judged c.type_fits-fits.ensures c.check_access-allowed.ensures c.is_initialized.ensures (mode_number_lem c.args.check _ c.init_check_number-mode.ensures)
