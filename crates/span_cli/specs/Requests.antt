-- How many files a request has, and how many workers a session.
use Rattle.std.specs.Prelude.{◌<◌, ◌≤◌, ℕ}
use Rattle.worker_pool.specs.declared.batch.TheConstants.{MAX_WORKERS}
use Rattle.span_cli.specs.declared.requests.Command.TheVariants.{Check, Plan, Margin, Explain, Roll, WhatIf, Faults}
use Rattle.span_cli.specs.declared.requests.Service.{Service}
use Rattle.span_cli.specs.declared.requests.Service.TheVariants.{Once, Session}

-- the least number of files of a request for this service
abbrev pub least_files : Service → ℕ
least_files (Once Check) = 1
least_files (Once Plan) = 1
least_files (Once (Margin workers)) = 2
least_files (Once (Explain account)) = 2
least_files (Once (Roll workers)) = 3
least_files (Once (WhatIf workers)) = 3
least_files (Once Faults) = 1
least_files (Session workers) = 2

-- the greatest number of them
abbrev pub most_files : Service → ℕ
most_files (Once Faults) = 2
most_files service = least_files service

-- a request for this service has this many files
abbrev pub HasFiles : Service → ℕ → Type 0
HasFiles service n = (least_files service ≤ n) × (n ≤ most_files service)

-- the number of workers of a session; a command counts as one
abbrev pub session_workers : Service → ℕ
session_workers (Once command) = 1
session_workers (Session workers) = workers

-- a session has 1 to 16 workers
abbrev pub HasWorkers : Service → Type 0
HasWorkers service = (0 < session_workers service) × (session_workers service ≤ MAX_WORKERS)
