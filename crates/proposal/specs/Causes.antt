-- The kinds of causes, by the numbers that are written for them.
use Rattle.std.specs.Prelude.{ℕ, Some, None, Option}
use Rattle.proposal.specs.declared.claims.Cause.{Cause}
use Rattle.proposal.specs.declared.claims.Cause.TheVariants.{Guard, Unchanged, Partner}

-- 1, the guard alone ensures that the invariant is true after the assignments; 2, the assignments, put into the
-- invariant's formula, leave that formula as it is; 3, the guard and a partner, which is an invariant, together ensure it.
abbrev pub cause_number : Cause → ℕ
cause_number Guard = 1
cause_number Unchanged = 2
cause_number (Partner partner) = 3

-- The invariant that a cause leans on, by its number.
abbrev pub partner_of : Cause → Option ℕ
partner_of Guard = None
partner_of Unchanged = None
partner_of (Partner partner) = Some partner
