use Rattle.std.proofs.Common.{◌≡◌, length}
use Rattle.ct_link_objects.proofs.Counts.{counted}
use Rattle.ct_link_objects.proofs.files.are_sourced.Goals as goal

pub returns-then-texts-file_count : goal.returns-then-texts-file_count
returns-then-texts-file_count c =
    let texts = c.sources.inside.texts.items in
    let count : length texts ≡ c.file_count.result = rw (← c.as_slice-texts.ensures.value) c.if-texts-file_count.true in
    rw (← c.sources.view_is)
    (counted c.args.desc.now texts c.file_count.result c.are_short.result c.file_count.ensures count (rw (← c.as_slice-texts.ensures.value) c.are_short.ensures))
