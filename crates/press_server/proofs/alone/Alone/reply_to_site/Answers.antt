use Rattle.press_server.specs.Turns.{single}
use Rattle.press_server.proofs.alone.Alone.reply_to_site.Goals as goal

pub returns-in_default : goal.returns-in_default
returns-in_default g c = single c.args.self.now.node c.serve_turn.new.node (record {
  kit = c.serve_turn.ensures.kit;
  request = c.args.request.now;
  left = c.serve_turn.new.reader.now;
  before = c.args.told.now.items;
  told = c.serve_turn.new.writer.items;
  result = c.serve_turn.result;
  turn = c.serve_turn.ensures.turn;
})
