use Rattle.std.proofs.Common.{◌++◌, ◌∙◌, ap, List, ℕ}
use Rattle.def_image.specs.Spelling.{export_field, name_field}
use Rattle.ct_image_parts.specs.Written.{gate}
use Rattle.ct_image_parts.proofs.OnOks.{on_ok}
use Rattle.ct_image_parts.proofs.writing.ExportPut.put.Goals as goal

pub returns : goal.returns
unfolding gate
returns c =
    rw (← c.self.view_is) (on_ok c.put_entry.result (λ e.
    e ∙ ap (λ (r : List ℕ). c.args.out.now.items ++ (r ++ name_field c.as_str.result.now)) c.write_export-row.ensures
    ∙ ap (λ (n : List ℕ). c.args.out.now.items ++ (export_field c.self.inside.row ++ name_field n)) c.as_str.ensures.value) c.put_entry.ensures)
