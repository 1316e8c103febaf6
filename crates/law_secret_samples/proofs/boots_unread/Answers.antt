use Rattle.law_secret_samples.proofs.AnyBoot as laws
use Rattle.law_secret_samples.proofs.boots_unread.Goals as goal

pub returns : goal.returns
returns c = λ b gs s e. laws.happens_same gs b s e
