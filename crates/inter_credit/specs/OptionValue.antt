-- The value of options, and the due and excess of an account.
use Rattle.std.specs.Prelude.{ℕ, List, ℤ, pos, ◌*ℤ◌, ◌-ℤ◌}
use Rattle.span_money.specs.Numbers.{int_sum_by, positive_part}
use Rattle.span_tables.specs.Net.{HeldContract}

-- the value of a held contract: its net quantity times its option value
abbrev pub position_value : HeldContract → ℤ
position_value h = h.net *ℤ pos (h.contract).extras.option_value

-- the option value of held contracts
unfoldable pub net_value_of : List HeldContract → ℤ
net_value_of held = int_sum_by position_value held

-- the due, which an account has to post: its total less its option value, or 0 if that is negative
abbrev pub due_of : ℤ → ℤ → ℕ
due_of total value = positive_part (total -ℤ value)

-- the excess of an account: its option value less its total, or 0 if that is negative
abbrev pub excess_of : ℤ → ℤ → ℕ
excess_of total value = positive_part (value -ℤ total)
