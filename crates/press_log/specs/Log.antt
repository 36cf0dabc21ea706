-- The commands that a node has applied, as the objects of a site file (own; fields and their names as *Command of fields* reads them).
use Rattle.std.specs.Prelude.{ℕ, List, length, map, take, drop, codes}
use Rattle.serde_json.specs.Data.{Data, array, number, object, member, no_members, string, unsigned}
use Rattle.serde_json.specs.View.{items_of}
use Rattle.press_posts.specs.declared.draft.Draft.{Draft}
use Rattle.press_posts.specs.Transitions.{status_word}
use Rattle.press_site.specs.declared.token.Token.{Token}
use Rattle.press_apply.specs.declared.command.Command.{Command}
use Rattle.press_apply.specs.declared.command.Command.TheVariants as command
use Rattle.press_apply.specs.declared.value.Value.{Value}
use Rattle.press_apply.specs.declared.value.Value.TheVariants as value
use Rattle.press_page.specs.declared.reply.Reply.{Reply}
use Rattle.press_page.specs.Json.{json_reply}

-- a command that has nothing but its kind
abbrev pub bare_data : List ℕ → Token → ℕ → Data
bare_data kind token at =
    object (member (codes "at") (number (unsigned at))
    (member (codes "editor") (string token.editor)
    (member (codes "kind") (string kind)
    (member (codes "seq") (number (unsigned token.seq)) no_members))))

-- one of a post that is there
abbrev pub post_data : List ℕ → ℕ → Token → ℕ → Data
post_data kind id token at =
    object (member (codes "at") (number (unsigned at))
    (member (codes "editor") (string token.editor)
    (member (codes "id") (number (unsigned id))
    (member (codes "kind") (string kind)
    (member (codes "seq") (number (unsigned token.seq)) no_members)))))

abbrev pub plugin_data : List ℕ → List ℕ → Token → ℕ → Data
plugin_data kind plugin token at =
    object (member (codes "at") (number (unsigned at))
    (member (codes "editor") (string token.editor)
    (member (codes "kind") (string kind)
    (member (codes "plugin") (string plugin)
    (member (codes "seq") (number (unsigned token.seq)) no_members)))))

abbrev pub option_data : List ℕ → List ℕ → Token → ℕ → Data
option_data name text token at =
    object (member (codes "at") (number (unsigned at))
    (member (codes "editor") (string token.editor)
    (member (codes "kind") (string (codes "option"))
    (member (codes "name") (string name)
    (member (codes "seq") (number (unsigned token.seq))
    (member (codes "value") (string text) no_members))))))

abbrev pub profile_data : ℕ → Token → ℕ → Data
profile_data profile token at =
    object (member (codes "at") (number (unsigned at))
    (member (codes "editor") (string token.editor)
    (member (codes "kind") (string (codes "profile"))
    (member (codes "profile") (number (unsigned profile))
    (member (codes "seq") (number (unsigned token.seq)) no_members)))))

abbrev pub insert_data : Draft → Token → ℕ → Data
insert_data draft token at =
    object (member (codes "at") (number (unsigned at))
    (member (codes "content") (string draft.content)
    (member (codes "date") (number (unsigned draft.date))
    (member (codes "editor") (string token.editor)
    (member (codes "kind") (string (codes "insert"))
    (member (codes "seq") (number (unsigned token.seq))
    (member (codes "status") (string (status_word draft.status))
    (member (codes "title") (string draft.title) no_members))))))))

abbrev pub update_data : ℕ → Draft → Token → ℕ → Data
update_data id draft token at =
    object (member (codes "at") (number (unsigned at))
    (member (codes "content") (string draft.content)
    (member (codes "date") (number (unsigned draft.date))
    (member (codes "editor") (string token.editor)
    (member (codes "id") (number (unsigned id))
    (member (codes "kind") (string (codes "update"))
    (member (codes "seq") (number (unsigned token.seq))
    (member (codes "status") (string (status_word draft.status))
    (member (codes "title") (string draft.title) no_members)))))))))

abbrev pub command_data : Command → Token → ℕ → Data
command_data (command.Insert draft) token at = insert_data draft token at
command_data (command.Update id draft) token at = update_data id draft token at
command_data (command.Trash id) token at = post_data (codes "trash") id token at
command_data (command.Untrash id) token at = post_data (codes "untrash") id token at
command_data (command.Delete id) token at = post_data (codes "delete") id token at
command_data (command.SetOption name text) token at = option_data name text token at
command_data (command.Activate plugin) token at = plugin_data (codes "activate") plugin token at
command_data (command.Deactivate plugin) token at = plugin_data (codes "deactivate") plugin token at
command_data command.Tick token at = bare_data (codes "tick") token at
command_data (command.Profile profile) token at = profile_data profile token at

-- a value without a command is no object of a site file: it has a moment alone
abbrev pub moment_data : ℕ → Data
moment_data at = object (member (codes "at") (number (unsigned at)) no_members)

abbrev pub entry_data : Value → Data
entry_data (value.Noop at) = moment_data at
entry_data (value.Cmd stamped) = command_data stamped.command stamped.token stamped.at

-- the most values of one reply
abbrev pub entry_limit : ℕ
entry_limit = 64

-- the first values behind so many, and how many there are in all
abbrev pub log_data : List Value → ℕ → Data
log_data values from =
    object (member (codes "applied") (number (unsigned (length values)))
    (member (codes "commands") (array (items_of (map entry_data (take entry_limit (drop from values))))) no_members))

abbrev pub log_reply : List Value → ℕ → Reply
log_reply values from = json_reply 200 (log_data values from)
