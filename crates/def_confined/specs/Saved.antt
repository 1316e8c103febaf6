-- What a frame saved is of objects that are there.
use Rattle.std.specs.Prelude.{◌≡◌, true, List}
use Rattle.def_machine.specs.Image.{Image}
use Rattle.def_machine.specs.State.{Frame, Object}
use Rattle.def_confined.specs.Places.{HasObject}

pub record SavedHave (i : Image) (objects : List Object) (f : Frame) : Type 0 where
  pub c1 : f.c1.tag ≡ true → HasObject i objects f.c1
  pub c2 : f.c2.tag ≡ true → HasObject i objects f.c2
  pub c3 : f.c3.tag ≡ true → HasObject i objects f.c3
  pub c8 : f.c8.tag ≡ true → HasObject i objects f.c8
  pub c9 : f.c9.tag ≡ true → HasObject i objects f.c9
