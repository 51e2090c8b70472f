-- How large templates may be, and how far they look where they don't say.
use Rattle.std.specs.Prelude.{ℕ}

-- fields, with `@timestamp`
abbrev pub most_fields : ℕ
most_fields = 1000

-- patterns
abbrev pub most_patterns : ℕ
most_patterns = 16

-- 2^31 - 1
abbrev pub greatest_priority : ℕ
greatest_priority = 2147483647

-- bytes of the path of a setting, which is `index.number_of_replicas`
abbrev pub longest_setting : ℕ
longest_setting = 24

abbrev pub most_shards : ℕ
most_shards = 64

-- a time to look back or ahead: one minute, in milliseconds
abbrev pub shortest_look : ℕ
shortest_look = 60_000

-- seven days
abbrev pub longest_look : ℕ
longest_look = 604_800_000

-- two hours
abbrev pub usual_look_back : ℕ
usual_look_back = 7_200_000

-- half an hour
abbrev pub usual_look_ahead : ℕ
usual_look_ahead = 1_800_000
