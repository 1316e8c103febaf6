use Rattle.law_boot.proofs.NamedHandlers.{handler_named, handler_unnamed}
use Rattle.law_boot.proofs.handlers.handlers_named.Goals as goal

pub returns : goal.returns
returns c = record {
  some = λ p b has. (let h = handler_named p b has in (h.which, h.export, h.there, h.name, h.number));
  none = λ p b j x none there is. handler_unnamed p b none j x there is;
}
