use Rattle.std.proofs.Common.{refl}
use Rattle.def_words.specs.Permissions.{normal_set, set_where, form_of, bit}
use Rattle.law_words.proofs.rows.removing_load_data.Goals as goal

pub returns : goal.returns
unfolding normal_set set_where form_of bit
returns c = refl
