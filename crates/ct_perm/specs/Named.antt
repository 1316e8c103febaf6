-- The written form that each form of the code is.
use Rattle.ct_perm.specs.declared.forms.Form.{Form}
use Rattle.ct_perm.specs.declared.forms.Form.TheVariants.{Executable, ReadWrite, ReadOnly, WriteOnly, Plain, Sealing}
use Rattle.def_words.specs.Permissions as permissions
use Rattle.def_words.specs.Permissions.{executable_form, read_write_form, read_only_form, write_only_form, plain_form, sealing_form}

abbrev pub written : Form → permissions.Form
written Executable = executable_form
written ReadWrite = read_write_form
written ReadOnly = read_only_form
written WriteOnly = write_only_form
written Plain = plain_form
written Sealing = sealing_form
