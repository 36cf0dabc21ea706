-- What a server tells those who watch it: the text format of Prometheus, version 0.0.4, of which a
-- metric is two lines of what it is and a line for each number (names: own).
use Rattle.std.specs.Prelude.{ℕ, Bool, Option, None, Some, List, [], ◌++◌, codes, decimal, flat_map, length, if◌then◌else◌}
use Rattle.press_operator.specs.declared.counts.Count.{Count}
use Rattle.press_operator.specs.declared.metrics.Among.{Among}
use Rattle.press_operator.specs.declared.metrics.Metrics.{Metrics}

-- a number that may fall
unfoldable pub gauge : List ℕ → List ℕ → ℕ → List ℕ
gauge name help value =
    codes "# HELP press_" ++ (name ++ (codes " " ++ (help ++ (codes "\n# TYPE press_" ++ (name ++ (codes " gauge\npress_" ++ (name ++ (codes " " ++ (decimal value ++ codes "\n")))))))))

-- a number that never falls while a server runs
unfoldable pub counter : List ℕ → List ℕ → ℕ → List ℕ
counter name help value =
    codes "# HELP press_" ++ (name ++ (codes " " ++ (help ++ (codes "\n# TYPE press_" ++ (name ++ (codes " counter\npress_" ++ (name ++ (codes " " ++ (decimal value ++ codes "\n")))))))))

abbrev pub one_if : Bool → ℕ
one_if is = if is then 1 else 0

-- the node
abbrev pub of_node : Metrics → List ℕ
of_node m =
    gauge (codes "applied_slots") (codes "Slots whose commands the node has applied.") m.applied
    ++ ((gauge (codes "down") (codes "Whether its store, or want of memory, has stopped the node.") (one_if m.is_down)
    ++ gauge (codes "forgotten") (codes "Whether another member heard of saves that the store lacks.") (one_if m.has_forgotten))
    ++ gauge (codes "queued_commands") (codes "Commands that wait at the node to be chosen.") m.waiting)

-- its store
abbrev pub of_store : Metrics → List ℕ
of_store m =
    counter (codes "saves_total") (codes "Saves of the store, failed ones too.") m.saves.count
    ++ counter (codes "save_milliseconds_total") (codes "Milliseconds that saves took.") m.saves.millis

-- the server
abbrev pub of_server : Metrics → List ℕ
of_server m =
    gauge (codes "open_connections") (codes "Connections that are open.") m.traffic.connections
    ++ counter (codes "lost_lines_total") (codes "Lines that standard error did not take.") m.traffic.lost

-- whether those that were compared agree; nothing of a node by itself
abbrev pub of_agreement : Option Bool → List ℕ
of_agreement None = []
of_agreement (Some is_unanimous) = gauge (codes "digests_agree") (codes "Whether no member that was compared has applied other commands.") (one_if is_unanimous)

-- what it knows of its cluster
abbrev pub of_others : Among → List ℕ
of_others among =
    gauge (codes "chosen_slots") (codes "Slots that are chosen, as far as the node knows.") among.chosen
    ++ (counter (codes "foreign_members_total") (codes "Members that began to have other peers or another kit.") among.foreign
    ++ of_agreement among.is_unanimous)

unfoldable pub count_line : Count → List ℕ
count_line count = codes "press_requests_total{status=\"" ++ (decimal count.status ++ (codes "\"} " ++ (decimal count.requests ++ codes "\n")))

abbrev pub requests_head : List ℕ
requests_head = codes "# HELP press_requests_total Requests that were answered, by status.\n# TYPE press_requests_total counter\n"

-- a number for each status
unfoldable pub of_requests : List Count → List ℕ
of_requests counts = requests_head ++ flat_map count_line counts

unfoldable pub page_of : Metrics → List ℕ
page_of m = of_node m ++ (of_others m.among ++ (of_store m ++ (of_server m ++ of_requests m.counts.now)))

-- the reply that brings a page
unfoldable pub reply_of : List ℕ → List ℕ
reply_of page =
    codes "HTTP/1.1 200 OK\r\nContent-Type: text/plain; version=0.0.4; charset=UTF-8\r\nContent-Length: " ++ (decimal (length page) ++ (codes "\r\nConnection: close\r\n\r\n" ++ page))
