use Rattle.std.proofs.Common.{◌≡◌, ap, ◌∙◌, None}
use Rattle.std.proofs.Math.ListN.{get_or}
use Rattle.std.specs.Prelude.{string_bytes}
use Rattle.std.proofs.lemmas.Slice.Eq.{bytes_eq-Decides}
use Rattle.def_port.specs.Forms.{FileRow, IsFirstOf, file_named}
use Rattle.ct_port.proofs.Files.{put_at, put_last}
use Rattle.ct_port.proofs.lists.put.Goals as goal

pub returns-in-Some-clause-ok : goal.returns-in-Some-clause-ok
returns-in-Some-clause-ok c =
    let row : FileRow = c.index_mut-file.result.now in
    let first : IsFirstOf c.args.files.now.items c.args.name.now c.in-Some.place = rw c.as_slice.ensures.value at c.in-Some.ensures in
    let here : (get_or c.args.files.now.items c.in-Some.place row).name ≡ c.args.name.now = (bytes_eq-Decides _ _).0 (first.here row) in
    let name_is : string_bytes c.file.inside.name ≡ c.args.name.now =
    ap (λ (r : FileRow). r.name) c.file.view_is ∙ ap (λ (r : FileRow). r.name) c.index_mut-file.ensures.value ∙ here in
    λ n. rw (name_is, c.in_ok-bytes.ensures.items) (put_at c.args.files.now.items c.in-Some.place row c.args.name.now c.args.bytes.now n first.inside here first.earlier)

pub returns-in_ok-push-in-None-clause-ok : goal.returns-in_ok-push-in-None-clause-ok
returns-in_ok-push-in-None-clause-ok c =
    let none : file_named c.args.files.now.items c.args.name.now ≡ None = rw c.as_slice.ensures.value at c.in-None.ensures in
    λ n. rw (c.in_ok-push-in-None.ensures.items, c.in_ok-bytes.ensures.items, c.in_ok-name-in-None.ensures.ok) (put_last c.args.files.now.items c.args.name.now c.args.bytes.now n none)
